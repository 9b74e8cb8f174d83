use Rattle.std.proofs.Common.{◌≡◌, drop, map}
use Rattle.shapes.specs.Views.{variant_view}
use Rattle.plainness.specs.Obstacles.{are_open_variants}
use Rattle.plainness.proofs.obstacle.are_open_variants.Given as goal

-- the variants that are left are open exactly if all are
abbrev pub invariant-loop-variant : goal.invariant-loop-variant
invariant-loop-variant l = are_open_variants l.tagging (map variant_view (drop l.variant-index l.variants)) ≡ are_open_variants l.tagging (map variant_view l.variants)
