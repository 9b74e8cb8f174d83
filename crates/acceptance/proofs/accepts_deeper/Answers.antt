use Rattle.acceptance.proofs.Below.{accepts-deeper}
use Rattle.acceptance.proofs.accepts_deeper.Goals as goal

pub returns : goal.returns
returns c = accepts-deeper
