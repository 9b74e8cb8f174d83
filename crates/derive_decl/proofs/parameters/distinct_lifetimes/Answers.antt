use Rattle.std.proofs.Common.{◌∙◌, List, map, ap, subst, inl, inr}
use Rattle.std.proofs.lemmas.List.{map-id}
use Rattle.std.proofs.lemmas.Result.{err_from_is_err_and}
use Rattle.texts.specs.Names.{IsDistinct}
use Rattle.syntax.specs.declared.item.GenericParam.{GenericParam}
use Rattle.syntax.specs.Items.{parameter_view}
use Rattle.scopes.specs.Names.{texts, IsGivenTwice}
use Rattle.derive_decl.specs.Lifetimes.{lifetimes_of}
use Rattle.derive_decl.proofs.Values.{are_distinct_from}
use Rattle.derive_decl.proofs.parameters.distinct_lifetimes.Goals as goal

pub returns-in_err-_places-clause-refused : goal.returns-in_err-_places-clause-refused
returns-in_err-_places-clause-refused c =
    let p = err_from_is_err_and c.from_residual-in_err-_places.result c.from_residual-in_err-_places.ensures.1 in
    let names = map-id c.as_slice-2.result.now ∙ c.as_slice-2.ensures ∙ c.in_ok-names.ensures ∙ ap (λ (ps : List GenericParam). lifetimes_of (map parameter_view ps)) c.as_slice.ensures in
    rw (p.1, p.2)
    (elim c.in_err-_places.ensures.refused [ inl memory ↦ inl memory | inr twice ↦ inr (subst (λ xs. IsGivenTwice xs c.in_err-_places.field-0.0) names twice) ])

pub returns-clause-once : goal.returns-clause-once
returns-clause-once c =
    let names = map-id c.as_slice-2.result.now ∙ c.as_slice-2.ensures ∙ c.in_ok-names.ensures ∙ ap (λ (ps : List GenericParam). lifetimes_of (map parameter_view ps)) c.as_slice.ensures in
    are_distinct_from _ (subst (λ xs. IsDistinct (texts xs)) names c.in_ok-_places.ensures.distinct)
