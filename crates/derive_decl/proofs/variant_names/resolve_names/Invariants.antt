use Rattle.std.proofs.Common.{◌≡◌, map, take, Some}
use Rattle.syntax.specs.Items.{variant_view}
use Rattle.serde_names.specs.Kept.{kept_variants}
use Rattle.derive_decl.specs.Variants.{variant_ident}
use Rattle.derive_decl.specs.Resolved.{all_of}
use Rattle.derive_decl.proofs.variant_names.resolve_names.Given as goal

-- the names so far are those of the variants so far that are kept
abbrev pub invariant-loop-variant : goal.invariant-loop-variant
invariant-loop-variant l =
    all_of (variant_ident l.config.renames l.rule l.tagging) (kept_variants (map variant_view (take l.variant-index l.variants))) ≡ Some l.names.items
