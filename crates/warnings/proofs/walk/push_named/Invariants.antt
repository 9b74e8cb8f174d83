use Rattle.std.proofs.Common.{◌≡◌, ◌++◌, map, take}
use Rattle.std.specs.List.{flat_map}
use Rattle.syntax.specs.Items.{field_view}
use Rattle.warnings.specs.Rules.{warning_view}
use Rattle.warnings.specs.Warned.{inside_view, warnings_of_named}
use Rattle.warnings.proofs.walk.push_named.Given as goal

abbrev pub invariant-loop-field : goal.invariant-loop-field
invariant-loop-field l = map warning_view l.warnings ≡ map warning_view l.initial.warnings ++ flat_map (warnings_of_named (inside_view l.inside) l.around) (map field_view (take l.field-index l.fields))
