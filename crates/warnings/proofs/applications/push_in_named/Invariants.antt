use Rattle.std.proofs.Common.{◌≡◌, ◌++◌, map, drop}
use Rattle.serde_names.specs.Kept.{kept}
use Rattle.syntax.specs.Items.{field_view}
use Rattle.warnings.specs.Applications.{applications_view, in_each}
use Rattle.warnings.proofs.applications.push_in_named.Given as goal

abbrev pub invariant-loop-field : goal.invariant-loop-field
invariant-loop-field l = applications_view l.found ++ in_each (kept (map field_view (drop l.field-index l.fields))) ≡ applications_view l.initial.found ++ in_each (kept (map field_view l.fields))
