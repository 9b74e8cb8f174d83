use Rattle.std.proofs.Common.{arith}
use Rattle.std.proofs.lemmas.Grind.{common_steps}
use Rattle.type_grammar.proofs.constants.after_minus.Goals as goal

pub returns-in-empty-clause-value : goal.returns-in-empty-clause-value
returns-in-empty-clause-value c = grind (arith, common_steps)

pub returns-in_ok-negative-in-Literal-clause-value : goal.returns-in_ok-negative-in-Literal-clause-value
returns-in_ok-negative-in-Literal-clause-value c = grind (arith, common_steps)
