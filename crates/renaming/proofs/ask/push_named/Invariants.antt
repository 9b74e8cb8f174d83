use Rattle.std.proofs.Common.{◌≡◌, ◌++◌, map, take}
use Rattle.std.specs.List.{flat_map}
use Rattle.syntax.specs.Items.{field_view}
use Rattle.serde_names.specs.Asked.{asked_of_field}
use Rattle.serde_names.specs.Kept.{own}
use Rattle.renaming.proofs.ask.push_named.Given as goal

-- the names so far are those of the fields so far
abbrev pub invariant-loop-field : goal.invariant-loop-field
invariant-loop-field l = l.names ≡ l.initial.names ++ flat_map (asked_of_field l.rule) (own (map field_view (take l.field-index l.fields)))
