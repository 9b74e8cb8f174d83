use Rattle.shapes.proofs.Deeper.{instances-deepen}
use Rattle.shapes.proofs.law.shapes_deepen.Goals as goal

pub returns : goal.returns
returns c = instances-deepen
