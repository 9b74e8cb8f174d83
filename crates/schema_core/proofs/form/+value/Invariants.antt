use Rattle.std.proofs.Common.{◌≡◌, take, map}
use Rattle.serde_json.specs.View.{view, members_view}
use Rattle.acceptance.specs.Json.{put_all, no_members}
use Rattle.acceptance.specs.Data.{members_data}
use Rattle.schema_core.proofs.Values.{schema_data, property_form}
use Rattle.schema_core.proofs.form.+value.Given as goal

-- the members so far are those of the properties so far
abbrev pub invariant-property_values-loop-property : goal.invariant-property_values-loop-property
invariant-property_values-loop-property l =
    members_view l.values.entries ≡ members_data (put_all (map (property_form l.by) (take l.property-index l.properties)) no_members)

-- the values so far are those of the schemas so far
abbrev pub invariant-schema_values-loop-schema : goal.invariant-schema_values-loop-schema
invariant-schema_values-loop-schema l = map view l.values.items ≡ map (schema_data l.by) (take l.schema-index l.schemas)
