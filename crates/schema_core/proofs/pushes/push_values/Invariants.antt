use Rattle.std.proofs.Common.{◌≡◌, ◌++◌, drop, false, string_bytes}
use Rattle.serde_json.specs.Written.{items_text}
use Rattle.acceptance.specs.Json.{list}
use Rattle.acceptance.specs.Data.{items_data}
use Rattle.schema_trees.specs.Held.{IsHeld}
use Rattle.schema_core.specs.Form.{value_items}
use Rattle.schema_core.proofs.pushes.push_values.Given as goal

-- the text so far, with the values that are left, is that of all; and all can be held where those that are left can
abbrev pub invariant-loop-json : goal.invariant-loop-json
invariant-loop-json l = record {
  text_is : string_bytes l.text ++ items_text l.later (items_data (value_items (drop l.json-index l.jsons))) ≡ string_bytes l.initial.text ++ items_text false (items_data (value_items l.jsons));
  held : IsHeld (list (value_items (drop l.json-index l.jsons))) → IsHeld (list (value_items l.jsons));
}
