use Rattle.std.proofs.Common.{◌≡◌, map, drop}
use Rattle.syntax.specs.Items.{variant_view}
use Rattle.warnings.specs.Warned.{has_named_variant}
use Rattle.warnings.proofs.walk.has_named_variant.Given as goal

abbrev pub invariant-loop-variant : goal.invariant-loop-variant
invariant-loop-variant l = has_named_variant (map variant_view (drop l.variant-index l.variants)) ≡ has_named_variant (map variant_view l.variants)
