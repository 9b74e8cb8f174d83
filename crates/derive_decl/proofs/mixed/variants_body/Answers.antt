use Rattle.std.proofs.Common.{◌≡◌, ◌∙◌, List, map, true, Some, filter_map, option_map, ap, sym, subst, inl, inr}
use Rattle.std.proofs.lemmas.Result.{err_from_is_err_and}
use Rattle.syntax.specs.Items.{variant_view}
use Rattle.scopes.specs.Names.{texts, IsGivenTwice}
use Rattle.shapes.specs.Declarations.{variants, variant_names, telling}
use Rattle.derive_decl.specs.declared.written_variant.WrittenVariant.{WrittenVariant}
use Rattle.serde_names.specs.Kept.{kept_variants}
use Rattle.derive_decl.specs.Variants.{are_told, variant_ident}
use Rattle.derive_decl.specs.Resolved.{all_of, variant_of, variants_are_told}
use Rattle.derive_decl.specs.Views.{known, written_variant_view}
use Rattle.derive_decl.proofs.EnumLaws.{variant_names-are}
use Rattle.derive_decl.proofs.Values.{passes}
use Rattle.derive_decl.proofs.mixed.variants_body.Goals as goal

pub returns-in_err-told_apart-clause-refused : goal.returns-in_err-told_apart-clause-refused
returns-in_err-told_apart-clause-refused c =
    let p = err_from_is_err_and c.from_residual-in_err-told_apart.result c.from_residual-in_err-told_apart.ensures.1 in
    let e = c.in_err-told_apart.field-0.0 in
    let same : map (λ (x : WrittenVariant). x.ident) c.as_slice.result.now ≡ filter_map (variant_ident (known c.args.root.now.container.now).rows c.args.rule c.args.tagging) (kept_variants (map variant_view c.args.variants.now)) =
    ap (map (λ (x : WrittenVariant). x.ident)) c.as_slice.ensures.value ∙ sym c.in_ok-written.ensures.idents in
    rw (p.1, p.2)
    (elim c.in_err-told_apart.ensures.refused [
      | inl memory ↦ inl memory
      | inr twice ↦ inr (inr (subst (λ xs. IsGivenTwice (telling c.args.tagging xs) e) same twice))
    ])

pub returns-clause-variants : goal.returns-clause-variants
returns-clause-variants c =
    let tagging = c.args.tagging in
    let all = all_of (variant_of (known c.args.root.now.container.now) c.args.rule tagging) (kept_variants (map variant_view c.args.variants.now)) in
    let xs = c.in_ok-written.written.items in
    let names : texts (map (λ (x : WrittenVariant). x.ident) c.as_slice.result.now) ≡ variant_names (map written_variant_view xs) =
    ap (λ (ys : List WrittenVariant). texts (map (λ (x : WrittenVariant). x.ident) ys)) c.as_slice.ensures.value ∙ sym (variant_names-are xs) in
    let told : are_told tagging (variant_names (map written_variant_view xs)) ≡ true = subst (λ ns. are_told tagging ns ≡ true) names c.in_ok-told_apart.ensures.told in
    ap (option_map (variants tagging)) (passes (variants_are_told tagging) all (map written_variant_view xs) c.in_ok-written.ensures.variants told) ∙ ap (λ ys. Some (variants tagging ys)) (sym c.in_ok-variants_of.ensures)
