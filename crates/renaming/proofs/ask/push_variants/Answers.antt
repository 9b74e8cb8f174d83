use Rattle.std.proofs.Common.{◌≡◌, ◌∙◌, ◌<◌, ◌+◌, ◌++◌, [], ◌∷◌, length, map, take, ap, subst, arith, inl, inr}
use Rattle.std.proofs.lemmas.Grind.{common_steps}
use Rattle.std.proofs.lemmas.Result.{err_from_is_err_and}
use Rattle.diag.specs.Refusal.{RefusesNone}
use Rattle.syntax.specs.Items.{variant_view}
use Rattle.serde_names.specs.Asked.{asked_of_variant, asked_of_variants}
use Rattle.serde_names.specs.Kept.{is_kept_variant, kept_variants}
use Rattle.renaming.specs.Refusals.{IsRefusedVariant, AreRefusedVariants}
use Rattle.renaming.proofs.Walks.{kept_more, somewhere_kept, flat_map-more, nowhere_more}
use Rattle.renaming.proofs.ask.push_variants.Goals as goal

pub returns-in_err-push_variant-clause-refused : goal.returns-in_err-push_variant-clause-refused
returns-in_err-push_variant-clause-refused c =
    let p = err_from_is_err_and c.from_residual.result c.from_residual.ensures.1 in
    let lt : c.loop-variant.variant-index < length c.args.variants.now = omega arith in
    rw (p.1, p.2)
    (elim c.in_err-push_variant.ensures.refused [
      | inl memory ↦ inl memory
      | inr fault ↦ inr (somewhere_kept variant_view is_kept_variant (λ v. IsRefusedVariant v c.in_err-push_variant.field-0.0) c.args.variants.now c.loop-variant.variant-index c.variant-item.result lt c.variant-item.is fault)
    ])

pub loop-variant-preserved : goal.loop-variant-preserved
loop-variant-preserved c =
    let variants = c.args.variants.now in
    let at = c.loop-variant.variant-index in
    let variant = c.variant-item.result in
    let lt : at < length variants = omega arith in
    let whole = kept_variants (map variant_view (take (at + 1) variants)) in
    let before = kept_variants (map variant_view (take at variants)) in
    let one = kept_variants (variant_view variant ∷ []) in
    let same : whole ≡ before ++ one = kept_more variant_view is_kept_variant variants at variant lt c.variant-item.is in
    record {
      names = flat_map-more (asked_of_variant c.args.rule) whole before one c.args.names.now c.push_variant.new.names same
          (c.in_ok-push_variant.ensures.names ∙ ap (λ ns. ns ++ asked_of_variants c.args.rule (variant_view variant ∷ [])) c.loop-variant.invariant.names);
      faultless = nowhere_more (λ v e. IsRefusedVariant v e) whole before one same c.loop-variant.invariant.faultless c.in_ok-push_variant.ensures.faultless;
    }

pub returns-clause-faultless : goal.returns-clause-faultless
returns-clause-faultless c =
    let whole : take c.loop-variant.variant-index c.args.variants.now ≡ c.args.variants.now = grind (arith, common_steps) in
    subst (λ vs. RefusesNone (AreRefusedVariants (map variant_view vs))) whole c.loop-variant.invariant.faultless
