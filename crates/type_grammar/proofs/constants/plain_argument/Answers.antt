use Rattle.std.proofs.Common.{arith}
use Rattle.std.proofs.lemmas.Grind.{common_steps}
use Rattle.type_grammar.proofs.constants.plain_argument.Goals as goal

pub returns-in-empty-clause-value : goal.returns-in-empty-clause-value
returns-in-empty-clause-value c = grind (arith, common_steps)

pub returns-in-Sign-Minus-default-clause-value : goal.returns-in-Sign-Minus-default-clause-value
returns-in-Sign-Minus-default-clause-value c = grind (arith, common_steps)

pub returns-in_ok-keyword-in-Keyword-True-default-clause-value : goal.returns-in_ok-keyword-in-Keyword-True-default-clause-value
returns-in_ok-keyword-in-Keyword-True-default-clause-value c = grind (arith, common_steps)

pub returns-in_ok-keyword-in-Keyword-False-default-clause-value : goal.returns-in_ok-keyword-in-Keyword-False-default-clause-value
returns-in_ok-keyword-in-Keyword-False-default-clause-value c = grind (arith, common_steps)
