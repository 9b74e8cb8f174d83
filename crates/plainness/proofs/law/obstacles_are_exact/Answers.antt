use Rattle.plainness.proofs.Exact.{obstacles_exact}
use Rattle.plainness.proofs.law.obstacles_are_exact.Goals as goal

pub returns : goal.returns
returns c = obstacles_exact
