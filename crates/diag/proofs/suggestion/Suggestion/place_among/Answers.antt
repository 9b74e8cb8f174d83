use Rattle.std.proofs.Common.{◌≤◌, ◌∙◌, ap, sym, subst, length, unwrap_or}
use Rattle.std.specs.Ordering.{is_lt}
use Rattle.diag.specs.Suggestion.{suggestion_cmp}
use Rattle.diag.proofs.Orders.{position-or_len, place_of-le}
use Rattle.diag.proofs.suggestion.Suggestion.place_among.Goals as goal

pub returns-clause-place : goal.returns-clause-place
returns-clause-place c =
    c.unwrap_or.ensures ∙ ap (λ place. unwrap_or place (length c.args.others.now)) c.first_after.ensures
    ∙ position-or_len (λ other. is_lt (suggestion_cmp c.args.self.now other)) c.args.others.now

pub returns-clause-within : goal.returns-clause-within
returns-clause-within c = subst (λ n. n ≤ length c.args.others.now) (sym (returns-clause-place c)) (place_of-le c.args.self.now c.args.others.now)
