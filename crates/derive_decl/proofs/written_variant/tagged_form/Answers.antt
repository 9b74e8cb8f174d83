use Rattle.std.proofs.Common.{◌≡◌, ◌∙◌, Some, ap, sym, subst, inl, inr}
use Rattle.std.proofs.lemmas.Result.{err_from_is_err_and}
use Rattle.attributes.specs.Attributes.{serde_items}
use Rattle.syntax.specs.Items.{variant_view}
use Rattle.derive_decl.specs.Resolved.{form_of}
use Rattle.derive_decl.specs.Tags.{tag_stands}
use Rattle.derive_decl.specs.Faults.{AreFaultyFields}
use Rattle.derive_decl.specs.Views.{known}
use Rattle.shapes.specs.Views.{form_view}
use Rattle.derive_decl.proofs.Values.{passes}
use Rattle.derive_decl.proofs.written_variant.tagged_form.Goals as goal

pub returns-in_err-form-clause-refused : goal.returns-in_err-form-clause-refused
returns-in_err-form-clause-refused c =
    let p = err_from_is_err_and c.from_residual.result c.from_residual.ensures.1 in
    let root = c.args.root.now in
    let v = variant_view c.args.variant.now in
    let e = c.in_err-form.field-0.0 in
    rw (p.1, p.2)
    (elim c.in_err-form.ensures.refused [
      | inl memory ↦ inl memory
      | inr fault ↦ inr (inl (subst (λ x. AreFaultyFields (known root.container.now) (serde_items v.attrs) x v.fields e) c.requires.ident
          (subst (λ attrs. AreFaultyFields (known root.container.now) (serde_items attrs) root.ident.now v.fields e) c.requires.items fault)))
    ])

pub returns-in_err-tag_stands-clause-refused : goal.returns-in_err-tag_stands-clause-refused
returns-in_err-tag_stands-clause-refused c =
    let p = err_from_is_err_and c.from_residual-in_err-tag_stands.result c.from_residual-in_err-tag_stands.ensures.1 in
    let v = variant_view c.args.variant.now in
    let form = c.in_ok-form.form in
    let of : form_of (known c.args.root.now.container.now) (serde_items v.attrs) v.fields ≡ Some (form_view form) =
    ap (λ attrs. form_of (known c.args.root.now.container.now) (serde_items attrs) v.fields) (sym c.requires.items) ∙ c.in_ok-form.ensures.form in
    rw (p.1, p.2)
    (elim c.in_err-tag_stands.ensures.refused [ inl memory ↦ inl memory | inr refused ↦ inr (inr (form_view form, of, refused)) ])

pub returns-clause-form : goal.returns-clause-form
returns-clause-form c =
    let v = variant_view c.args.variant.now in
    let form = form_view c.in_ok-form.form in
    let of : form_of (known c.args.root.now.container.now) (serde_items v.attrs) v.fields ≡ Some form =
    ap (λ attrs. form_of (known c.args.root.now.container.now) (serde_items attrs) v.fields) (sym c.requires.items) ∙ c.in_ok-form.ensures.form in
    passes (tag_stands c.args.tagging.now) _ form of c.in_ok-tag_stands.ensures.stands
