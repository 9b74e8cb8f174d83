-- The declarations that the schema of a place names, in the order in which it is made.
use Rattle.std.specs.Prelude.{◌≡◌, List, [], ◌∷◌, ◌++◌, Bool, true, false}
use Rattle.schema_trees.specs.Schema.{SchemaOf, SchemasOf, PropertiesOf, PartOf}
use Rattle.schema_trees.specs.Schema as tree
use Rattle.open_types.specs.Open.{Open, Opens, leaf, any_value, free_object, unit, tuple, items, set, map_of, option, through, param, named, no_types, more_types, open_view}
use Rattle.component.specs.declared.references.SchemaReference.{SchemaReference}
use Rattle.component.specs.Leaves.{LeafOf}
use Rattle.component.specs.Leaves as leaves
use Rattle.component.specs.Places.{PlaceOf, place}

-- a declaration with its arguments, and whether its schema stands there itself
pub record ReferenceOf : Type 0 where
  pub of : Open
  pub is_inline : Bool
  pub no_recursion : Bool

abbrev pub reference_view : SchemaReference → ReferenceOf
reference_view r = record { of = open_view r.of; is_inline = r.is_inline; no_recursion = r.no_recursion }

-- Tuple items stand by position, and a map's key before its value; both items and keys are inline.
abbrev mutual
  pub references : Bool → Open → List ReferenceOf
  references inline (leaf x) = []
  references inline any_value = []
  references inline free_object = []
  references inline unit = []
  references inline (tuple ts) = item_references ts
  references inline (items h t) = references inline t
  references inline (set h t) = references inline t
  references inline (map_of h k t) = references true k ++ references inline t
  references inline (option t) = references inline t
  references inline (through h t) = references inline t
  references inline (param i) = []
  references inline (named d ts) = record { of = named d ts; is_inline = inline; no_recursion = false } ∷ []

  pub item_references : Opens → List ReferenceOf
  item_references no_types = []
  item_references (more_types t ts) = references true t ++ item_references ts

-- ---- the leaves of a schema

abbrev pub leaf_references : LeafOf → List ReferenceOf
leaf_references (leaves.param i) = []
leaf_references (leaves.named t inline annotations) = record { of = t; is_inline = inline; no_recursion = false } ∷ []

-- the declarations at the leaves, those of a map's names before those of its values
abbrev mutual
  pub named_leaves : SchemaOf LeafOf → List ReferenceOf
  named_leaves (tree.leaf x) = leaf_references x
  named_leaves (tree.object facts ps additional names) = property_leaves ps ++ (part_leaves names ++ part_leaves additional)
  named_leaves (tree.array facts front rest) = schema_leaves front ++ part_leaves rest
  named_leaves (tree.one_of annotations ss) = schema_leaves ss
  named_leaves (tree.all_of annotations ss) = schema_leaves ss

  pub schema_leaves : SchemasOf LeafOf → List ReferenceOf
  schema_leaves tree.no_schemas = []
  schema_leaves (tree.schema s ss) = named_leaves s ++ schema_leaves ss

  pub property_leaves : PropertiesOf LeafOf → List ReferenceOf
  property_leaves tree.no_properties = []
  property_leaves (tree.property k s ps) = named_leaves s ++ property_leaves ps

  pub part_leaves : PartOf LeafOf → List ReferenceOf
  part_leaves tree.no_part = []
  part_leaves (tree.truth b) = []
  part_leaves (tree.part s) = named_leaves s

-- The law: the references of a place are the declarations at the leaves of its schema.
abbrev pub ReferencesAreLeaves : Type 0
ReferencesAreLeaves = (at : PlaceOf) (t : Open) → named_leaves (place at t) ≡ references at.inline t
