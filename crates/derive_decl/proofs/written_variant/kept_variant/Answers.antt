use Rattle.std.proofs.Common.{◌≡◌, ◌∙◌, List, map, Some, option_map, option_and_then, ap, sym, inl, inr}
use Rattle.std.proofs.lemmas.Result.{err_from_is_err_and}
use Rattle.attributes.specs.Attributes.{attribute_view}
use Rattle.attributes.specs.declared.attribute.Attribute.{Attribute}
use Rattle.syntax.specs.Items.{variant_view}
use Rattle.derive_decl.specs.Variants.{variant_name}
use Rattle.derive_decl.specs.Resolved.{annotations_of, variant_from}
use Rattle.derive_decl.specs.Views.{known}
use Rattle.shapes.specs.Views.{form_view}
use Rattle.derive_decl.proofs.EnumLaws.{name_of-ident}
use Rattle.derive_decl.proofs.written_variant.kept_variant.Goals as goal

pub returns-clause-variant : goal.returns-clause-variant
returns-clause-variant c =
    let around = known c.args.root.now.container.now in
    let v = variant_view c.args.variant.now in
    let form = c.in_ok-form.form in
    let name : variant_name around.rows c.args.rule c.args.tagging.now v ≡ Some c.in_ok-ident.ident.text = name_of-ident v.ident c.in_ok-ident.ident (variant_name around.rows c.args.rule c.args.tagging.now v) c.in_ok-ident.ensures.name in
    (λ i. option_and_then (λ n. option_map (variant_from v n) (c.in_ok-form.ensures.form i)) (name i))
    ∙ ap (λ r. Some (record { name = c.in_ok-ident.ident.text; annotations = r; form = form_view form }))
    (ap (λ (xs : List Attribute). annotations_of (map attribute_view xs)) (sym c.as_slice.ensures) ∙ sym c.in_ok-annotations_of.ensures)

pub returns-in_err-ident-clause-refused : goal.returns-in_err-ident-clause-refused
returns-in_err-ident-clause-refused c =
    let p = err_from_is_err_and c.from_residual.result c.from_residual.ensures.1 in
    rw (p.1, p.2)
    (elim c.in_err-ident.ensures.refused [ inl memory ↦ inl memory | inr unnamed ↦ inr (inl unnamed) ])

pub returns-in_err-form-clause-refused : goal.returns-in_err-form-clause-refused
returns-in_err-form-clause-refused c =
    let p = err_from_is_err_and c.from_residual-in_err-form.result c.from_residual-in_err-form.ensures.1 in
    rw (p.1, p.2)
    (elim c.in_err-form.ensures.refused [ inl memory ↦ inl memory | inr fault ↦ inr (inr fault) ])

pub tagged_form-requires-clause-items : goal.tagged_form-requires-clause-items
tagged_form-requires-clause-items c = ap (map attribute_view) c.as_slice.ensures
