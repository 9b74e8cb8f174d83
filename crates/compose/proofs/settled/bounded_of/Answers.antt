use Rattle.std.proofs.Common.{◌∙◌, List, map, subst, inl, inr}
use Rattle.std.proofs.lemmas.Result.{err_from_is_err_and}
use Rattle.syntax.specs.Items.{declarations_view}
use Rattle.scopes.specs.Names.{declared_idents}
use Rattle.shapes.specs.declared.declaration.Declaration.{Declaration}
use Rattle.shapes.specs.Views.{declaration_view}
use Rattle.compose.specs.Bounds.{IsUnbounded}
use Rattle.compose.specs.Sets.{declarations_of}
use Rattle.compose.proofs.Counts.{as-many}
use Rattle.compose.proofs.settled.bounded_of.Goals as goal

pub returns-in_err-terms-clause-refused : goal.returns-in_err-terms-clause-refused
returns-in_err-terms-clause-refused c =
    let p = err_from_is_err_and c.from_residual.result c.from_residual.ensures.1 in
    rw (p.1, p.2)
    (elim c.in_err-terms.ensures.refused [
      | inl memory ↦ inl memory
      | inr fault ↦ inr (inl fault)
    ])

pub within_bounds-requires-clause-many : goal.within_bounds-requires-clause-many
within_bounds-requires-clause-many c =
    as-many c.in_ok-terms.terms.idents c.as_slice.result.now c.in_ok-terms.terms.resolved c.as_slice-2.result.now (declarations_view c.args.declarations) c.as_slice.ensures c.as_slice-2.ensures c.in_ok-terms.ensures.terms.idents c.in_ok-terms.ensures.terms.settled.names

pub returns-in_err-bounded-clause-refused : goal.returns-in_err-bounded-clause-refused
returns-in_err-bounded-clause-refused c =
    let p = err_from_is_err_and c.from_residual-in_err-bounded.result c.from_residual-in_err-bounded.ensures.1 in
    let ds = declarations_view c.args.declarations in
    let settled = c.in_ok-terms.ensures.terms.settled in
    let e = c.in_err-bounded.field-0.0 in
    rw (p.1, p.2)
    (elim c.in_err-bounded.ensures.refused [
      | inl memory ↦ inl memory
      | inr unbounded ↦ inr (inr (
        settled.clear,
        (
          declarations_of c.in_ok-terms.terms,
          settled.resolves,
          subst (λ (xs : List Declaration). IsUnbounded c.args.config.now (declared_idents ds) (map declaration_view xs) e) c.as_slice-2.ensures
              (subst (λ xs. IsUnbounded c.args.config.now xs (map declaration_view c.as_slice-2.result.now) e) (c.as_slice.ensures ∙ c.in_ok-terms.ensures.terms.idents) unbounded),
        ),
      ))
    ])
