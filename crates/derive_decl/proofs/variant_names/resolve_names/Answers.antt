use Rattle.std.proofs.Common.{◌≡◌, ◌<◌, [], length, map, take, subst, arith, inl, inr, Some}
use Rattle.std.proofs.lemmas.Grind.{common_steps}
use Rattle.std.proofs.lemmas.Result.{err_from_is_err_and}
use Rattle.std.specs.List.{cons_option}
use Rattle.syntax.specs.Items.{variant_view}
use Rattle.serde_names.specs.Kept.{is_kept_variant, kept_variants}
use Rattle.derive_decl.specs.Variants.{variant_ident}
use Rattle.derive_decl.specs.Resolved.{all_of}
use Rattle.derive_decl.specs.Faults.{IsUnnamed}
use Rattle.derive_decl.proofs.Growing.{all_kept_more, somewhere_kept}
use Rattle.derive_decl.proofs.variant_names.resolve_names.Goals as goal

pub returns-in_err-name-clause-refused : goal.returns-in_err-name-clause-refused
returns-in_err-name-clause-refused c =
    let p = err_from_is_err_and c.from_residual.result c.from_residual.ensures.1 in
    let lt : c.loop-variant.variant-index < length c.args.variants.now = omega arith in
    rw (p.1, p.2)
    (elim c.in_err-name.ensures.refused [
      | inl memory ↦ inl memory
      | inr fault ↦ inr (somewhere_kept variant_view is_kept_variant (λ v. IsUnnamed c.args.config.now.renames c.args.rule c.args.tagging.now v c.in_err-name.field-0.0)
          c.args.variants.now c.loop-variant.variant-index c.variant-item.result lt c.variant-item.is fault)
    ])

pub loop-variant-preserved : goal.loop-variant-preserved
loop-variant-preserved c =
    let variants = c.args.variants.now in
    let at = c.loop-variant.variant-index in
    let variant = c.variant-item.result in
    let lt : at < length variants = omega arith in
    let name = variant_ident c.args.config.now.renames c.args.rule c.args.tagging.now in
    rw c.in_ok-push_some.ensures (all_kept_more variant_view is_kept_variant name variants at variant c.loop-variant.names.items (cons_option c.in_ok-name.name []) lt c.variant-item.is c.loop-variant.invariant c.in_ok-name.ensures.name)

pub returns-clause-names : goal.returns-clause-names
returns-clause-names c =
    let whole : take c.loop-variant.variant-index c.args.variants.now ≡ c.args.variants.now = grind (arith, common_steps) in
    subst (λ vs. all_of (variant_ident c.args.config.now.renames c.args.rule c.args.tagging.now) (kept_variants (map variant_view vs)) ≡ Some c.loop-variant.names.items) whole c.loop-variant.invariant
