use Rattle.std.proofs.Common.{◌≡◌, map, drop}
use Rattle.std.specs.List.{list_any}
use Rattle.syntax.specs.Items.{field_view}
use Rattle.warnings.specs.Flat.{known, asks}
use Rattle.warnings.proofs.flat.fields_ask.Given as goal

abbrev pub invariant-loop-field : goal.invariant-loop-field
invariant-loop-field l = list_any (asks (known l.container) l.default) (map field_view (drop l.field-index l.fields)) ≡ list_any (asks (known l.container) l.default) (map field_view l.fields)
