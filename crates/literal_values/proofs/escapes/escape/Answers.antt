use Rattle.std.proofs.Common.{arith}
use Rattle.std.proofs.lemmas.Grind.{common_steps}
use Rattle.literal_values.proofs.escapes.escape.Goals as goal

pub returns-in_err-short_escape-in_default : goal.returns-in_err-short_escape-in_default
returns-in_err-short_escape-in_default c = grind (arith, common_steps)
