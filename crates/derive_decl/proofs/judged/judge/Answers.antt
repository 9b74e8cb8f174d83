use Rattle.std.proofs.Common.{◌≡◌, ◌∙◌, List, map, Some, None, IsSome, cond, ap, sym, subst, inl, inr, refl}
use Rattle.std.proofs.lemmas.Result.{err_from_is_err_and}
use Rattle.attributes.specs.Attributes.{AttributeItem, attribute_view}
use Rattle.syntax.specs.Items.{declaration_view}
use Rattle.shapes.specs.Views.{declaration_view as resolved_view}
use Rattle.derive_decl.specs.Faults.{IsFaultyDeclaration}
use Rattle.derive_decl.specs.Resolved.{declaration_of, resolved_of}
use Rattle.derive_decl.specs.Views.{known}
use Rattle.derive_decl.proofs.judged.judge.Goals as goal

pub returns-in_err-distinct_parameters-clause-refused : goal.returns-in_err-distinct_parameters-clause-refused
returns-in_err-distinct_parameters-clause-refused c =
    let p = err_from_is_err_and c.from_residual.result c.from_residual.ensures.1 in
    rw (p.1, p.2)
    (elim c.in_err-distinct_parameters.ensures.refused [ inl memory ↦ inl memory | inr twice ↦ inr (inl twice) ])

pub returns-in_err-resolve_declaration-clause-refused : goal.returns-in_err-resolve_declaration-clause-refused
returns-in_err-resolve_declaration-clause-refused c =
    let p = err_from_is_err_and c.from_residual-in_err-resolve_declaration.result c.from_residual-in_err-resolve_declaration.ensures.1 in
    let around = known c.args.container.now in
    let d = declaration_view c.args.declaration.now in
    let e = c.in_err-resolve_declaration.field-0.0 in
    let attrs : map attribute_view c.as_slice.result.now ≡ d.attrs = ap (map attribute_view) c.as_slice.ensures in
    rw (p.1, p.2)
    (elim c.in_err-resolve_declaration.ensures.refused [
      | inl memory ↦ inl memory
      | inr fault ↦ inr (inr (subst (λ (xs : List AttributeItem). IsFaultyDeclaration around xs d.ident d.body e) attrs fault))
    ])

pub returns-clause-clear : goal.returns-clause-clear
returns-clause-clear c =
    let around = known c.args.container.now in
    let d = declaration_view c.args.declaration.now in
    let attrs : map attribute_view c.as_slice.result.now ≡ d.attrs = ap (map attribute_view) c.as_slice.ensures in
    let resolved : declaration_of around d.attrs d.ident d.body ≡ Some (resolved_view c.in_ok-resolve_declaration.field-0) =
    ap (λ xs. declaration_of around xs d.ident d.body) (sym attrs) ∙ c.in_ok-resolve_declaration.ensures.resolved in
    let whole : resolved_of around d ≡ Some (resolved_view c.in_ok-resolve_declaration.field-0) = ap (λ b. cond b (declaration_of around d.attrs d.ident d.body) None) c.in_ok-distinct_parameters.ensures.once ∙ resolved in
    (c.resolution_is_exact.ensures.items around d c.requires).0 (subst IsSome (sym whole) refl)
