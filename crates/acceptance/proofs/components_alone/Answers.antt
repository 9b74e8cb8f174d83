use Rattle.acceptance.proofs.Components.{accepts-same}
use Rattle.acceptance.proofs.components_alone.Goals as goal

pub returns : goal.returns
returns c = accepts-same
