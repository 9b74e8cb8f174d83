use Rattle.open_types.specs.proved.SameLaws.{same_decides}
use Rattle.open_types.proofs.law.same_types_are_equal.Goals as goal

pub returns : goal.returns
returns c = same_decides
