use Rattle.std.proofs.Common.{◌≡◌, ◌∙◌, List, map, true, Some, filter_map, ap, sym, subst, inl, inr}
use Rattle.std.proofs.lemmas.List.{map-id}
use Rattle.std.proofs.lemmas.Result.{err_from_is_err_and}
use Rattle.written_types.specs.declared.written.Ident.{Ident}
use Rattle.syntax.specs.Items.{variant_view}
use Rattle.scopes.specs.Names.{texts, IsGivenTwice}
use Rattle.shapes.specs.Declarations.{telling}
use Rattle.serde_names.specs.Kept.{kept_variants}
use Rattle.derive_decl.specs.Variants.{are_told, variant_name, variant_ident}
use Rattle.derive_decl.specs.Resolved.{all_of}
use Rattle.derive_decl.proofs.Growing.{all-given}
use Rattle.derive_decl.proofs.Texts.{names-are, texts_are}
use Rattle.derive_decl.proofs.Values.{passes}
use Rattle.derive_decl.proofs.variant_names.distinct_names.Goals as goal

pub returns-in_err-told_apart-clause-refused : goal.returns-in_err-told_apart-clause-refused
returns-in_err-told_apart-clause-refused c =
    let p = err_from_is_err_and c.from_residual-in_err-told_apart.result c.from_residual-in_err-told_apart.ensures.1 in
    let e = c.in_err-told_apart.field-0.0 in
    let tagging = c.args.tagging.now in
    let kept = kept_variants (map variant_view c.args.variants.now) in
    let name = variant_ident c.args.config.now.renames c.args.rule tagging in
    let same : map (λ (x : Ident). x) c.as_slice.result.now ≡ filter_map name kept = map-id c.as_slice.result.now ∙ c.as_slice.ensures.value ∙ sym (all-given name kept c.in_ok-names.names.items c.in_ok-names.ensures.names) in
    rw (p.1, p.2)
    (elim c.in_err-told_apart.ensures.refused [
      | inl memory ↦ inl memory
      | inr twice ↦ inr (inr (subst (λ xs. IsGivenTwice (telling tagging xs) e) same twice))
    ])

pub returns-clause-names : goal.returns-clause-names
returns-clause-names c =
    let tagging = c.args.tagging.now in
    let kept = kept_variants (map variant_view c.args.variants.now) in
    let xs = c.in_ok-names.names.items in
    let all : all_of (variant_name c.args.config.now.renames c.args.rule tagging) kept ≡ Some (texts xs) = names-are c.args.config.now.renames c.args.rule tagging kept xs c.in_ok-names.ensures.names in
    let told : are_told tagging (texts xs) ≡ true =
    subst (λ (ys : List Ident). are_told tagging (texts ys) ≡ true) (map-id c.as_slice.result.now ∙ c.as_slice.ensures.value) c.in_ok-told_apart.ensures.told in
    passes (are_told tagging) _ (texts xs) all told ∙ ap Some (sym (c.in_ok-texts_of.ensures ∙ texts_are xs))
