use Rattle.std.proofs.Common.{◌≡◌, take, map}
use Rattle.serde_json.specs.View.{members_view}
use Rattle.acceptance.specs.Json.{put_all, no_members}
use Rattle.acceptance.specs.Data.{members_data}
use Rattle.schema_core.specs.Document.{entry_form}
use Rattle.schema_core.specs.Entries.{entries_of}
use Rattle.schema_trees.specs.Schema.{schema_view}
use Rattle.schema_core.proofs.components.schema_values.Given as goal

-- the members so far are those of the entries so far
abbrev pub invariant-loop-i : goal.invariant-loop-i
invariant-loop-i l =
    members_view l.values.entries ≡ members_data (put_all (map (entry_form l.by) (take l.i (entries_of l.names (map schema_view l.schemas)))) no_members)
