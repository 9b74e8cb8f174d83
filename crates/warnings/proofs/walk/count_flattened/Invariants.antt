use Rattle.std.proofs.Common.{◌≡◌, length, map, take}
use Rattle.serde_names.specs.Kept.{flattened}
use Rattle.syntax.specs.Items.{field_view}
use Rattle.warnings.proofs.walk.count_flattened.Given as goal

abbrev pub invariant-loop-field : goal.invariant-loop-field
invariant-loop-field l = l.count ≡ length (flattened (map field_view (take l.field-index l.fields)))
