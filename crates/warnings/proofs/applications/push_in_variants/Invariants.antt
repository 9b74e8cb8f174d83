use Rattle.std.proofs.Common.{◌≡◌, ◌++◌, map, drop}
use Rattle.syntax.specs.Items.{variant_view}
use Rattle.warnings.specs.Applications.{applications_view, in_variants}
use Rattle.warnings.proofs.applications.push_in_variants.Given as goal

abbrev pub invariant-loop-variant : goal.invariant-loop-variant
invariant-loop-variant l = applications_view l.found ++ in_variants (map variant_view (drop l.variant-index l.variants)) ≡ applications_view l.initial.found ++ in_variants (map variant_view l.variants)
