use Rattle.schema_core.proofs.ReadBack.{texts_are_compact}
use Rattle.schema_core.proofs.law.texts_are_compact.Goals as goal

pub returns : goal.returns
returns c = texts_are_compact
