use Rattle.std.proofs.Common.{arith}
use Rattle.std.proofs.lemmas.Grind.{common_steps}
use Rattle.prepare.proofs.attributes.after_inner.Goals as goal

pub inner-smaller : goal.inner-smaller
inner-smaller c = grind (arith, common_steps)
