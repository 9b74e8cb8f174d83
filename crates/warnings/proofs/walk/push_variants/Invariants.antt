use Rattle.std.proofs.Common.{◌≡◌, ◌++◌, map, take}
use Rattle.std.specs.List.{flat_map}
use Rattle.syntax.specs.Items.{variant_view}
use Rattle.warnings.specs.Rules.{warning_view}
use Rattle.warnings.specs.Warned.{inside_view, warnings_of_variant}
use Rattle.warnings.proofs.walk.push_variants.Given as goal

abbrev pub invariant-loop-variant : goal.invariant-loop-variant
invariant-loop-variant l = map warning_view l.warnings ≡ map warning_view l.initial.warnings ++ flat_map (warnings_of_variant (inside_view l.inside)) (map variant_view (take l.variant-index l.variants))
