use Rattle.resolving.proofs.Faultless.{exact}
use Rattle.resolving.proofs.law.resolution_is_exact.Goals as goal

pub returns : goal.returns
returns c = exact
