use Rattle.std.proofs.Common.{◌≡◌, take, map}
use Rattle.serde_json.specs.View.{view}
use Rattle.acceptance.specs.Data.{data_of}
use Rattle.schema_core.proofs.form.json_values.Given as goal

-- the values so far are the data of the values so far
abbrev pub invariant-loop-json : goal.invariant-loop-json
invariant-loop-json l = map view l.values.items ≡ map data_of (take l.json-index l.jsons)
