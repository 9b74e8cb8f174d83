use Rattle.std.proofs.Common.{arith}
use Rattle.std.proofs.lemmas.Grind.{common_steps}
use Rattle.prepare.proofs.heads.implemented.Goals as goal

pub returns-then-is_word : goal.returns-then-is_word
returns-then-is_word c = grind (arith, common_steps)

pub trees-preserved-then-after-lt1 : goal.trees-preserved-then-after-lt1
trees-preserved-then-after-lt1 c = grind (arith, common_steps)

pub trees-preserved-else-is_word : goal.trees-preserved-else-is_word
trees-preserved-else-is_word c = grind (arith, common_steps)

pub trees-preserved : goal.trees-preserved
trees-preserved c = grind (arith, common_steps)

pub returns : goal.returns
returns c = grind (arith, common_steps)
