-- The schemas of the items of a tuple, and the declarations that they name.
use Rattle.std.proofs.Common.{List, [], ◌∷◌, map, ◌≡◌, refl, ap, true}
use Rattle.open_types.specs.declared.open_type.OpenType.{OpenType}
use Rattle.open_types.specs.Open.{open_view, opens_view}
use Rattle.schema_trees.specs.Schema.{SchemaOf, schema, schemas_of}
use Rattle.component.specs.Leaves.{LeafOf}
use Rattle.component.specs.Places.{inside, place, inline_places}

-- the schema of an item
abbrev pub item_place : OpenType → SchemaOf LeafOf
item_place t = place (inside true) (open_view t)

pub items_are : (ts : List OpenType) → schemas_of (map item_place ts) ≡ inline_places (opens_view ts)
items_are [] = refl
items_are (t ∷ ts) = ap (schema (item_place t)) (items_are ts)
