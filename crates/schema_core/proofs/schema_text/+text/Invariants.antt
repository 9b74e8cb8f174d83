use Rattle.std.proofs.Common.{◌≡◌, ◌<◌, ◌++◌, drop, false, string_bytes, length, map}
use Rattle.std.specs.List.{AllByRecursion}
use Rattle.serde_json.specs.Written.{items_text}
use Rattle.acceptance.specs.Json.{list}
use Rattle.acceptance.specs.Data.{items_data}
use Rattle.schema_trees.specs.Held.{IsHeld}
use Rattle.schema_trees.specs.Schema.{bind_properties, bind_schemas, tree_views, named_views}
use Rattle.schema_core.specs.Form.{schema_forms, property_forms}
use Rattle.schema_core.proofs.Placed.{placed_text, place_of, ArePlacedHeld}
use Rattle.schema_core.proofs.schema_text.+text.Given as goal

-- the text so far, with the schemas that are left, is that of all; and all can be held where those that are left can
abbrev pub invariant-push_schemas-loop-schema : goal.invariant-push_schemas-loop-schema
invariant-push_schemas-loop-schema g l = record {
  text_is : string_bytes l.text ++ items_text l.later (items_data (schema_forms l.by (bind_schemas (g.W.WriteLeaf.put l.writer) (tree_views g.W.WriteLeaf.meaning (drop l.schema-index l.schemas)))))
      ≡ string_bytes l.initial.text ++ items_text false (items_data (schema_forms l.by (bind_schemas (g.W.WriteLeaf.put l.writer) (tree_views g.W.WriteLeaf.meaning l.schemas))));
  held : IsHeld (list (schema_forms l.by (bind_schemas (g.W.WriteLeaf.put l.writer) (tree_views g.W.WriteLeaf.meaning (drop l.schema-index l.schemas))))) → IsHeld (list (schema_forms l.by (bind_schemas (g.W.WriteLeaf.put l.writer) (tree_views g.W.WriteLeaf.meaning l.schemas))));
}

-- the text so far, with the properties that are left, is that of all; each of these is a property, and all can be held where these can
abbrev pub invariant-push_members-loop-name : goal.invariant-push_members-loop-name
invariant-push_members-loop-name g l =
    let es = property_forms l.by (bind_properties (g.W.WriteLeaf.put l.writer) (named_views g.W.WriteLeaf.meaning l.properties)) in
    record {
      text_is : string_bytes l.text ++ placed_text l.later es (map place_of l.name-iterator) ≡ string_bytes l.initial.text ++ placed_text false es (map place_of l.initial.name-iterator);
      below : AllByRecursion (λ e. e.1 < length l.properties) (map place_of l.name-iterator);
      held : ArePlacedHeld es (map place_of l.name-iterator) → ArePlacedHeld es (map place_of l.initial.name-iterator);
    }
