use Rattle.std.proofs.Common.{◌≡◌, map, drop}
use Rattle.syntax.specs.Items.{variant_view}
use Rattle.warnings.specs.Flat.{known, has_unfit}
use Rattle.warnings.proofs.flat.has_unfit.Given as goal

abbrev pub invariant-loop-variant : goal.invariant-loop-variant
invariant-loop-variant l = has_unfit (known l.container) l.untagged (map variant_view (drop l.variant-index l.variants)) ≡ has_unfit (known l.container) l.untagged (map variant_view l.variants)
