use Rattle.std.proofs.Common.{◌≡◌, ◌∙◌, List, map, Some, None, is_none, cond, option_map, ap, sym, subst, inl, inr}
use Rattle.std.proofs.lemmas.Result.{err_from_is_err_and}
use Rattle.attributes.specs.Attributes.{attribute_view, serde_items}
use Rattle.attributes.specs.declared.attribute.Attribute.{Attribute}
use Rattle.syntax.specs.Items.{body_view, declaration_view}
use Rattle.shapes.specs.Views.{body_view as resolved_view}
use Rattle.derive_decl.specs.Faults.{IsFaultyBody}
use Rattle.derive_decl.specs.Resolved.{body_of, declaration_from, declaration_of}
use Rattle.derive_decl.specs.Views.{known}
use Rattle.derive_decl.proofs.whole.resolved_of.Goals as goal

pub returns-in_err-distinct_parameters-clause-refused : goal.returns-in_err-distinct_parameters-clause-refused
returns-in_err-distinct_parameters-clause-refused c =
    let p = err_from_is_err_and c.from_residual.result c.from_residual.ensures.1 in
    rw (p.1, p.2)
    (elim c.in_err-distinct_parameters.ensures.refused [ inl memory ↦ inl memory | inr twice ↦ inr (inl twice) ])

pub returns-in_err-body-clause-refused : goal.returns-in_err-body-clause-refused
returns-in_err-body-clause-refused c =
    let p = err_from_is_err_and c.from_residual-in_err-body.result c.from_residual-in_err-body.ensures.1 in
    let d = c.args.declaration.now in
    let e = c.in_err-body.field-0.0 in
    rw (p.1, p.2)
    (elim c.in_err-body.ensures.refused [
      | inl memory ↦ inl memory
      | inr fault ↦ inr (inr (inr (c.requires.derivable, subst (λ (xs : List Attribute). IsFaultyBody (known c.args.container.now) (serde_items (map attribute_view xs)) d.ident (body_view d.body) e) c.as_slice.ensures fault)))
    ])

pub returns-clause-resolved : goal.returns-clause-resolved
returns-clause-resolved c =
    let around = known c.args.container.now in
    let d = declaration_view c.args.declaration.now in
    let attrs : map attribute_view c.as_slice.result.now ≡ d.attrs = ap (map attribute_view) c.as_slice.ensures in
    let of : body_of around (serde_items d.attrs) d.body ≡ Some (resolved_view c.in_ok-body.body) = ap (λ a. body_of around (serde_items a) d.body) (sym attrs) ∙ c.in_ok-body.ensures.body in
    ap (λ b. cond b (declaration_of around d.attrs d.ident d.body) None) c.in_ok-distinct_parameters.ensures.once
    ∙ ap (λ b. option_map (declaration_from around d.attrs d.ident) (cond b (body_of around (serde_items d.attrs) d.body) None)) (ap is_none c.requires.derivable)
    ∙ ap (option_map (declaration_from around d.attrs d.ident)) of
    ∙ ap (λ a. Some (declaration_from around a d.ident (resolved_view c.in_ok-body.body))) (sym attrs)
    ∙ ap Some (sym c.in_ok-with_body.ensures)
