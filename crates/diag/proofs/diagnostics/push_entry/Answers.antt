use Rattle.std.proofs.Common.{arith}
use Rattle.std.proofs.lemmas.Grind.{common_steps}
use Rattle.diag.proofs.diagnostics.push_entry.Goals as goal

pub loop-suggestion-preserved : goal.loop-suggestion-preserved
loop-suggestion-preserved c = grind (arith, common_steps)

pub returns : goal.returns
returns c = grind (arith, common_steps)
