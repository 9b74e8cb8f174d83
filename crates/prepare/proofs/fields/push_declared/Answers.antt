use Rattle.std.proofs.Common.{arith}
use Rattle.std.proofs.lemmas.Grind.{common_steps}
use Rattle.prepare.proofs.fields.push_declared.Goals as goal

pub loop-tree-preserved : goal.loop-tree-preserved
loop-tree-preserved c = grind (arith, common_steps)

pub loop-tree-2-preserved : goal.loop-tree-2-preserved
loop-tree-2-preserved c = grind (arith, common_steps)

pub returns-in-empty : goal.returns-in-empty
returns-in-empty c = grind (arith, common_steps)

pub returns-after-loop-tree : goal.returns-after-loop-tree
returns-after-loop-tree c = grind (arith, common_steps)

pub returns-after-loop-tree-2 : goal.returns-after-loop-tree-2
returns-after-loop-tree-2 c = grind (arith, common_steps)
