use Rattle.std.proofs.Common.{◌∙◌, ap, sym, subst, insert, IsSorted}
use Rattle.diag.specs.Suggestion.{suggestion_cmp, place_of}
use Rattle.diag.proofs.Orders.{IsSorted-inserted}
use Rattle.diag.proofs.diagnostics.Diagnostics.suggest.Goals as goal

pub invariant_of-self : goal.invariant_of-self
invariant_of-self c =
    let others = c.self.inside.first.suggestions in
    let place = c.place_among-place.ensures.place ∙ ap (place_of c.args.suggestion) c.as_slice.ensures in
    let is = c.in_ok-insert.ensures.ok ∙ ap (λ n. insert others n c.args.suggestion) place in
    subst (λ suggestions. IsSorted suggestion_cmp suggestions) (sym is) (IsSorted-inserted c.args.suggestion others c.self.invariant)
