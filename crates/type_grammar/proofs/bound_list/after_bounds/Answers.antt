use Rattle.std.proofs.Common.{arith}
use Rattle.std.proofs.lemmas.Grind.{common_steps}
use Rattle.type_grammar.specs.Reading.{after_bounds}
use Rattle.type_grammar.proofs.bound_list.after_bounds.Goals as goal

pub returns-then-not-begins_bound-clause-value : goal.returns-then-not-begins_bound-clause-value
unfolding after_bounds
returns-then-not-begins_bound-clause-value c = grind (arith, common_steps)

pub returns-in_err-first-in-len1-up-clause-value : goal.returns-in_err-first-in-len1-up-clause-value
unfolding after_bounds
returns-in_err-first-in-len1-up-clause-value c = grind (arith, common_steps)

pub returns-in_err-rest-in-len1-up-clause-value : goal.returns-in_err-rest-in-len1-up-clause-value
unfolding after_bounds
returns-in_err-rest-in-len1-up-clause-value c = grind (arith, common_steps)

pub returns-in-empty-clause-value : goal.returns-in-empty-clause-value
unfolding after_bounds
returns-in-empty-clause-value c = grind (arith, common_steps)

pub returns-in_ok-rest-in-len1-up-clause-value : goal.returns-in_ok-rest-in-len1-up-clause-value
unfolding after_bounds
returns-in_ok-rest-in-len1-up-clause-value c = grind (arith, common_steps)
