use Rattle.std.proofs.Common.{◌≡◌, map, filter_map, take, Some}
use Rattle.syntax.specs.Items.{variant_view}
use Rattle.derive_decl.specs.declared.written_variant.WrittenVariant.{WrittenVariant}
use Rattle.serde_names.specs.Kept.{kept_variants}
use Rattle.derive_decl.specs.Variants.{variant_ident}
use Rattle.derive_decl.specs.Resolved.{all_of, variant_of}
use Rattle.derive_decl.specs.Views.{known, written_variant_view}
use Rattle.derive_decl.proofs.written_variant.resolve_variants.Given as goal

-- the variants so far are those that are kept, with their names
abbrev pub invariant-loop-variant : goal.invariant-loop-variant
invariant-loop-variant l =
    (all_of (variant_of (known l.root.container.now) l.rule l.tagging) (kept_variants (map variant_view (take l.variant-index l.variants))) ≡ Some (map written_variant_view l.resolved.items))
    × (filter_map (variant_ident l.root.container.now.config.now.renames l.rule l.tagging) (kept_variants (map variant_view (take l.variant-index l.variants))) ≡ map (λ (x : WrittenVariant). x.ident) l.resolved.items)
