-- The JSON values that values of serde_json, and layers of them, stand for.
use Rattle.std.specs.Prelude.{List as Listed, String}
use Rattle.std.specs.declared.alloc.Global.{Global}
use Rattle.serde_json.specs.View.{view, items_view, members_view}
use Rattle.serde_json.specs.declared.value.Value.{Value}
use Rattle.acceptance.specs.Json.{Json, Items, Members, null, boolean, number, text, list, map}
use Rattle.acceptance.specs.Data.{json_of, json_items, json_members}
use Rattle.acceptance_checker.specs.declared.layer.Layer.{Layer}
use Rattle.acceptance_checker.specs.declared.layer.Layer.TheVariants.{Null, Boolean, Whole, Text, List, Map}

abbrev pub json_of_value : Value → Json
json_of_value v = json_of (view v)

abbrev pub json_of_values : Listed Value → Items
json_of_values vs = json_items (items_view vs)

abbrev pub json_of_entries : Listed (String Global × Value) → Members
json_of_entries es = json_members (members_view es)

abbrev pub json_of_layer : Layer → Json
json_of_layer Null = null
json_of_layer (Boolean b) = boolean b
json_of_layer (Whole n) = number n
json_of_layer (Text s) = text s.now
json_of_layer (List xs) = list (json_of_values xs.now)
json_of_layer (Map ms) = map (json_of_entries ms.now.entries)
