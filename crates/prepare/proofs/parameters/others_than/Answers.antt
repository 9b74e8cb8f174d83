use Rattle.std.proofs.Common.{arith}
use Rattle.std.proofs.lemmas.Grind.{common_steps}
use Rattle.prepare.proofs.parameters.others_than.Goals as goal

pub names-preserved-in_ok-push : goal.names-preserved-in_ok-push
names-preserved-in_ok-push c = grind (arith, common_steps)

pub names-preserved : goal.names-preserved
names-preserved c = grind (arith, common_steps)

pub returns : goal.returns
returns c = grind (arith, common_steps)
