use Rattle.std.proofs.Common.{arith}
use Rattle.std.proofs.lemmas.Grind.{common_steps}
use Rattle.prepare.proofs.attributes.after_attributes.Goals as goal

pub attributes-smaller : goal.attributes-smaller
attributes-smaller c = grind (arith, common_steps)
