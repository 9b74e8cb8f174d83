use Rattle.std.proofs.Common.{◌≡◌, map, drop}
use Rattle.std.specs.List.{list_any}
use Rattle.syntax.specs.Items.{field_view}
use Rattle.warnings.specs.Flat.{known, is_flattened_as}
use Rattle.warnings.proofs.flat.flattens.Given as goal

abbrev pub invariant-loop-field : goal.invariant-loop-field
invariant-loop-field l = list_any (is_flattened_as l.test (known l.container)) (map field_view (drop l.field-index l.fields)) ≡ list_any (is_flattened_as l.test (known l.container)) (map field_view l.fields)
