use Rattle.std.proofs.Common.{◌≡◌, ◌∙◌, ◌<◌, [], length, map, filter_map, take, ap, sym, subst, arith, inl, inr, Some}
use Rattle.std.proofs.lemmas.Grind.{common_steps}
use Rattle.std.proofs.lemmas.List.{map-append}
use Rattle.std.proofs.lemmas.Result.{err_from_is_err_and}
use Rattle.std.specs.List.{cons_option}
use Rattle.syntax.specs.Items.{variant_view}
use Rattle.syntax.specs.Named.{HaveNames}
use Rattle.derive_decl.specs.declared.written_variant.WrittenVariant.{WrittenVariant}
use Rattle.serde_names.specs.Kept.{is_kept_variant, kept_variants}
use Rattle.derive_decl.specs.Variants.{variant_ident}
use Rattle.derive_decl.specs.Resolved.{all_of, variant_of}
use Rattle.derive_decl.specs.Faults.{IsFaultyVariant}
use Rattle.derive_decl.specs.Views.{known, written_variant_view}
use Rattle.derive_decl.proofs.Growing.{fact_at, all_kept_more, some_kept_more, somewhere_kept}
use Rattle.derive_decl.proofs.written_variant.resolve_variants.Goals as goal

pub resolve_variant-requires : goal.resolve_variant-requires
resolve_variant-requires c =
    let lt : c.loop-variant.variant-index < length c.args.variants.now = omega arith in
    fact_at (λ v. HaveNames v.fields) variant_view c.args.variants.now c.loop-variant.variant-index c.variant-item.result lt c.variant-item.is c.requires

pub returns-in_err-kept-clause-refused : goal.returns-in_err-kept-clause-refused
returns-in_err-kept-clause-refused c =
    let p = err_from_is_err_and c.from_residual.result c.from_residual.ensures.1 in
    let lt : c.loop-variant.variant-index < length c.args.variants.now = omega arith in
    rw (p.1, p.2)
    (elim c.in_err-kept.ensures.refused [
      | inl memory ↦ inl memory
      | inr fault ↦ inr (somewhere_kept variant_view is_kept_variant (λ v. IsFaultyVariant (known c.args.root.now.container.now) c.args.rule c.args.tagging.now v c.in_err-kept.field-0.0)
          c.args.variants.now c.loop-variant.variant-index c.variant-item.result lt c.variant-item.is fault)
    ])

pub loop-variant-preserved : goal.loop-variant-preserved
loop-variant-preserved c =
    let variants = c.args.variants.now in
    let at = c.loop-variant.variant-index in
    let variant = c.variant-item.result in
    let lt : at < length variants = omega arith in
    let around = known c.args.root.now.container.now in
    let resolved = c.loop-variant.resolved.items in
    let more = cons_option c.in_ok-kept.kept [] in
    let tagging = c.args.tagging.now in
    rw c.in_ok-push_some.ensures (
      all_kept_more variant_view is_kept_variant (variant_of around c.args.rule tagging) variants at variant (map written_variant_view resolved) (map written_variant_view more) lt c.variant-item.is c.loop-variant.invariant.0
          c.in_ok-kept.ensures.variant ∙ ap Some (sym (map-append written_variant_view resolved more)),
      some_kept_more variant_view is_kept_variant (variant_ident around.rows c.args.rule tagging) variants at variant (map (λ x. x.ident) resolved) (map (λ x. x.ident) more) lt c.variant-item.is c.loop-variant.invariant.1
          c.in_ok-kept.ensures.ident ∙ sym (map-append (λ (x : WrittenVariant). x.ident) resolved more),
    )

pub returns-clause-variants : goal.returns-clause-variants
returns-clause-variants c =
    let whole : take c.loop-variant.variant-index c.args.variants.now ≡ c.args.variants.now = grind (arith, common_steps) in
    subst (λ vs. all_of (variant_of (known c.args.root.now.container.now) c.args.rule c.args.tagging.now) (kept_variants (map variant_view vs)) ≡ Some (map written_variant_view c.loop-variant.resolved.items)) whole c.loop-variant.invariant.0

pub returns-clause-idents : goal.returns-clause-idents
returns-clause-idents c =
    let whole : take c.loop-variant.variant-index c.args.variants.now ≡ c.args.variants.now = grind (arith, common_steps) in
    subst (λ vs. filter_map (variant_ident c.args.root.now.container.now.config.now.renames c.args.rule c.args.tagging.now) (kept_variants (map variant_view vs)) ≡ map (λ (x : WrittenVariant). x.ident) c.loop-variant.resolved.items)
    whole c.loop-variant.invariant.1
