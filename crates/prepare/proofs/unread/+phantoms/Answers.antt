use Rattle.std.proofs.Common.{arith}
use Rattle.std.proofs.lemmas.Grind.{common_steps}
use Rattle.prepare.proofs.unread.+phantoms.Goals as goal

pub push_all_phantoms-trees-preserved : goal.push_all_phantoms-trees-preserved
push_all_phantoms-trees-preserved t c = grind (arith, common_steps)

pub push_all_phantoms-returns : goal.push_all_phantoms-returns
push_all_phantoms-returns t c = grind (arith, common_steps)
