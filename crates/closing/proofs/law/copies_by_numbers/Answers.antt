use Rattle.closing.proofs.InstanceCopies.{copies-by-numbers}
use Rattle.closing.proofs.law.copies_by_numbers.Goals as goal

pub returns : goal.returns
returns c = copies-by-numbers c.same_types_are_equal.ensures c.types_stay_without_arguments.ensures
