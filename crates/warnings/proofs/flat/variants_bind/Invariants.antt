use Rattle.std.proofs.Common.{◌≡◌, map, drop}
use Rattle.syntax.specs.Items.{variant_view}
use Rattle.warnings.specs.Flat.{known, variants_bind}
use Rattle.warnings.proofs.flat.variants_bind.Given as goal

abbrev pub invariant-loop-variant : goal.invariant-loop-variant
invariant-loop-variant l = variants_bind (known l.container) (map variant_view (drop l.variant-index l.variants)) ≡ variants_bind (known l.container) (map variant_view l.variants)
