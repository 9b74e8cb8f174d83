use Rattle.std.proofs.Common.{arith}
use Rattle.std.proofs.lemmas.Grind.{common_steps}
use Rattle.open_types.proofs.SameLists.{same_types_lengths}
use Rattle.open_types.proofs.same.+same.Goals as goal

pub same_all-returns : goal.same_all-returns
same_all-returns t c = grind (arith, common_steps)

pub same_all-returns-then-types-others : goal.same_all-returns-then-types-others
same_all-returns-then-types-others t c = grind (arith, same_types_lengths)
