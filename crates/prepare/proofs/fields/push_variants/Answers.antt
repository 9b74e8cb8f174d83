use Rattle.std.proofs.Common.{arith}
use Rattle.std.proofs.lemmas.Grind.{common_steps}
use Rattle.prepare.proofs.fields.push_variants.Goals as goal

pub loop-part-preserved : goal.loop-part-preserved
loop-part-preserved c = grind (arith, common_steps)

pub returns-after-loop-part : goal.returns-after-loop-part
returns-after-loop-part c = grind (arith, common_steps)
