use Rattle.closing.proofs.InstanceCopies.{paths-by-numbers}
use Rattle.closing.proofs.law.paths_by_numbers.Goals as goal

pub returns : goal.returns
returns c = paths-by-numbers c.same_types_are_equal.ensures
