use Rattle.component.proofs.NamedLeaves.{place-leaves}
use Rattle.component.proofs.law.references_are_leaves.Goals as goal

pub returns : goal.returns
returns c = place-leaves
