use Rattle.schema_core.proofs.OneOf.{one_of_holds}
use Rattle.schema_core.proofs.law.one_of_holds.Goals as goal

pub returns : goal.returns
returns c = one_of_holds
