use Rattle.std.proofs.Common.{arith}
use Rattle.std.proofs.lemmas.Grind.{common_steps}
use Rattle.prepare.proofs.parameters.push_parameters.Goals as goal

pub trees-preserved : goal.trees-preserved
trees-preserved c = grind (arith, common_steps)

pub returns : goal.returns
returns c = grind (arith, common_steps)
