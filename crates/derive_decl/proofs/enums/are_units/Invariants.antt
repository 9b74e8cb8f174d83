use Rattle.std.proofs.Common.{◌≡◌, map, drop}
use Rattle.syntax.specs.Items.{variant_view}
use Rattle.derive_decl.specs.Variants.{are_units}
use Rattle.derive_decl.proofs.enums.are_units.Given as goal

-- the variants so far have no fields, so those still to come decide
abbrev pub invariant-loop-variant : goal.invariant-loop-variant
invariant-loop-variant l = are_units (map variant_view (drop l.variant-index l.variants)) ≡ are_units (map variant_view l.variants)
