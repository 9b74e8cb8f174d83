use Rattle.diag.proofs.Orders.{suggestion_cmp_total, same_from_tie, tie_from_same}
use Rattle.diag.proofs.suggestion.suggestions_are_ordered.Goals as goal

pub returns-clause-total : goal.returns-clause-total
returns-clause-total c = suggestion_cmp_total

pub returns-clause-ties : goal.returns-clause-ties
returns-clause-ties c = λ one other. (same_from_tie one other, tie_from_same one other)
