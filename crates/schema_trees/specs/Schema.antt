-- Schemas as trees with leaves of any type, without where they lie in memory.
use Rattle.std.specs.Prelude.{ℕ, zero, suc, ℤ, Bool, false, List, [], ◌∷◌, map, Option, Some, None, option_map}
use Rattle.acceptance.specs.Json.{Json}
use Rattle.schema_trees.specs.declared.bounds.Bounds.{Bounds}
use Rattle.schema_trees.specs.declared.annotations.AnnotationKeywords.{AnnotationKeywords as Annotations}
use Rattle.schema_trees.specs.declared.tree.TypeWord.{TypeWord}
use Rattle.schema_trees.specs.declared.tree.RefLeaf.{RefLeaf}
use Rattle.schema_trees.specs.declared.tree.Tree.{Tree, fold-Tree}
use Rattle.schema_trees.specs.declared.tree.Object.{Object, fold-Object}
use Rattle.schema_trees.specs.declared.tree.Array.{Array, fold-Array}
use Rattle.schema_trees.specs.declared.tree.OneOfSchema.{OneOfSchema, fold-OneOfSchema}
use Rattle.schema_trees.specs.declared.tree.AllOfSchema.{AllOfSchema, fold-AllOfSchema}
use Rattle.schema_trees.specs.declared.tree.Additional.{Additional, fold-Additional}
use Rattle.schema_trees.specs.declared.tree.ArrayItems.{ArrayItems, fold-ArrayItems}
use Rattle.schema_trees.specs.declared.tree.Additional.TheOpen.{Additional-F, ArrayItems-F, Tree-F, AllOfSchema-F, Array-F, Object-F, OneOfSchema-F}

-- what an object says without a schema
pub record Facts : Type 0 where
  pub type_word : TypeWord
  pub format : Option (List ℕ)
  pub enum_values : Option (List Json)
  pub required : List (List ℕ)
  pub bounds : Bounds
  pub annotations : Annotations

-- what an array says without a schema
pub record ArrayFacts : Type 0 where
  pub nullable : Bool
  pub unique : Bool
  pub max_items : Option ℤ
  pub min_items : Option ℤ
  pub annotations : Annotations

mutual
  pub data SchemaOf (X : Type 0) : Type 0 where
    leaf : X → SchemaOf X
    object : Facts → PropertiesOf X → (additional names : PartOf X) → SchemaOf X
    array : ArrayFacts → (front : SchemasOf X) → (rest : PartOf X) → SchemaOf X
    one_of : Annotations → SchemasOf X → SchemaOf X
    all_of : Annotations → SchemasOf X → SchemaOf X

  pub data SchemasOf (X : Type 0) : Type 0 where
    no_schemas : SchemasOf X
    schema : SchemaOf X → SchemasOf X → SchemasOf X

  pub data PropertiesOf (X : Type 0) : Type 0 where
    no_properties : PropertiesOf X
    property : List ℕ → SchemaOf X → PropertiesOf X → PropertiesOf X

  -- what may be left out: a truth value, or a schema
  pub data PartOf (X : Type 0) : Type 0 where
    no_part : PartOf X
    truth : Bool → PartOf X
    part : SchemaOf X → PartOf X

abbrev pub property_names : {X : Type 0} → PropertiesOf X → List (List ℕ)
property_names no_properties = []
property_names (property k s ps) = k ∷ property_names ps

abbrev pub schema_count : {X : Type 0} → SchemasOf X → ℕ
schema_count no_schemas = zero
schema_count (schema s ss) = suc (schema_count ss)

-- a schema with another put at each leaf
abbrev mutual
  pub bind : {X Y : Type 0} → (X → SchemaOf Y) → SchemaOf X → SchemaOf Y
  bind f (leaf x) = f x
  bind f (object facts ps additional names) = object facts (bind_properties f ps) (bind_part f additional) (bind_part f names)
  bind f (array facts front rest) = array facts (bind_schemas f front) (bind_part f rest)
  bind f (one_of annotations ss) = one_of annotations (bind_schemas f ss)
  bind f (all_of annotations ss) = all_of annotations (bind_schemas f ss)

  pub bind_schemas : {X Y : Type 0} → (X → SchemaOf Y) → SchemasOf X → SchemasOf Y
  bind_schemas f no_schemas = no_schemas
  bind_schemas f (schema s ss) = schema (bind f s) (bind_schemas f ss)

  pub bind_properties : {X Y : Type 0} → (X → SchemaOf Y) → PropertiesOf X → PropertiesOf Y
  bind_properties f no_properties = no_properties
  bind_properties f (property k s ps) = property k (bind f s) (bind_properties f ps)

  pub bind_part : {X Y : Type 0} → (X → SchemaOf Y) → PartOf X → PartOf Y
  bind_part f no_part = no_part
  bind_part f (truth b) = truth b
  bind_part f (part s) = part (bind f s)

-- what holds of each leaf
abbrev mutual
  pub EachLeaf : {X : Type 0} → (X → Type 0) → SchemaOf X → Type 0
  EachLeaf Q (leaf x) = Q x
  EachLeaf Q (object facts ps additional names) = EachPropertyLeaf Q ps × (EachPartLeaf Q additional × EachPartLeaf Q names)
  EachLeaf Q (array facts front rest) = EachSchemaLeaf Q front × EachPartLeaf Q rest
  EachLeaf Q (one_of annotations ss) = EachSchemaLeaf Q ss
  EachLeaf Q (all_of annotations ss) = EachSchemaLeaf Q ss

  pub EachSchemaLeaf : {X : Type 0} → (X → Type 0) → SchemasOf X → Type 0
  EachSchemaLeaf Q no_schemas = Unit {0}
  EachSchemaLeaf Q (schema s ss) = EachLeaf Q s × EachSchemaLeaf Q ss

  pub EachPropertyLeaf : {X : Type 0} → (X → Type 0) → PropertiesOf X → Type 0
  EachPropertyLeaf Q no_properties = Unit {0}
  EachPropertyLeaf Q (property k s ps) = EachLeaf Q s × EachPropertyLeaf Q ps

  pub EachPartLeaf : {X : Type 0} → (X → Type 0) → PartOf X → Type 0
  EachPartLeaf Q no_part = Unit {0}
  EachPartLeaf Q (truth b) = Unit {0}
  EachPartLeaf Q (part s) = EachLeaf Q s

-- ---- what the program's trees are

-- what an object says without a schema
abbrev pub object_facts : {L : Type 0} → Object L → Facts
object_facts o = record {
  type_word = o.ty;
  format = o.format;
  enum_values = o.enum_values;
  required = o.required;
  bounds = o.bounds;
  annotations = o.annotations;
}

module _ {X : Type 0} where
  abbrev pub schemas_of : List (SchemaOf X) → SchemasOf X
  schemas_of [] = no_schemas
  schemas_of (s ∷ ss) = schema s (schemas_of ss)

  abbrev pub properties_of : List (List ℕ × SchemaOf X) → PropertiesOf X
  properties_of [] = no_properties
  properties_of (p ∷ ps) = property p.0 p.1 (properties_of ps)

  abbrev pub part_of : Option (SchemaOf X) → PartOf X
  part_of None = no_part
  part_of (Some s) = part s

module _ {L X : Type 0} (leaf_view : L → X) where
  abbrev additional_step : Additional-F L (PartOf X) (PartOf X) (SchemaOf X) (SchemaOf X) (SchemaOf X) (SchemaOf X) (SchemaOf X) → PartOf X
  additional_step Additional-F.Absent = no_part
  additional_step (Additional-F.Truth b) = truth b
  additional_step (Additional-F.Of s) = part s

  abbrev items_step : ArrayItems-F L (PartOf X) (PartOf X) (SchemaOf X) (SchemaOf X) (SchemaOf X) (SchemaOf X) (SchemaOf X) → PartOf X
  items_step ArrayItems-F.False = truth false
  items_step (ArrayItems-F.Each s) = part s

  abbrev tree_step : Tree-F L (PartOf X) (PartOf X) (SchemaOf X) (SchemaOf X) (SchemaOf X) (SchemaOf X) (SchemaOf X) → SchemaOf X
  tree_step (Tree-F.Object o) = o.value
  tree_step (Tree-F.Array a) = a.value
  tree_step (Tree-F.OneOf o) = o.value
  tree_step (Tree-F.AllOf a) = a.value
  tree_step (Tree-F.Leaf l) = leaf (leaf_view l)

  abbrev all_of_step : AllOfSchema-F L (PartOf X) (PartOf X) (SchemaOf X) (SchemaOf X) (SchemaOf X) (SchemaOf X) (SchemaOf X) → SchemaOf X
  all_of_step a = all_of a.annotations (schemas_of a.items)

  abbrev array_step : Array-F L (PartOf X) (PartOf X) (SchemaOf X) (SchemaOf X) (SchemaOf X) (SchemaOf X) (SchemaOf X) → SchemaOf X
  array_step a =
      array (record { nullable = a.nullable; unique = a.unique; max_items = a.max_items; min_items = a.min_items; annotations = a.annotations }) (schemas_of a.prefix_items) a.items

  abbrev object_step : Object-F L (PartOf X) (PartOf X) (SchemaOf X) (SchemaOf X) (SchemaOf X) (SchemaOf X) (SchemaOf X) → SchemaOf X
  object_step o =
      object (record { type_word = o.ty; format = o.format; enum_values = o.enum_values; required = o.required; bounds = o.bounds; annotations = o.annotations })
      (properties_of o.properties) o.additional (part_of o.property_names)

  abbrev one_of_step : OneOfSchema-F L (PartOf X) (PartOf X) (SchemaOf X) (SchemaOf X) (SchemaOf X) (SchemaOf X) (SchemaOf X) → SchemaOf X
  one_of_step o = one_of o.annotations (schemas_of o.items)

  abbrev pub tree_view : Tree L → SchemaOf X
  tree_view = fold-Tree L (PartOf X) (PartOf X) (SchemaOf X) (SchemaOf X) (SchemaOf X) (SchemaOf X) (SchemaOf X) additional_step items_step tree_step all_of_step array_step object_step one_of_step

  abbrev pub object_view : Object L → SchemaOf X
  object_view = fold-Object L (PartOf X) (PartOf X) (SchemaOf X) (SchemaOf X) (SchemaOf X) (SchemaOf X) (SchemaOf X) additional_step items_step tree_step all_of_step array_step object_step one_of_step

  abbrev pub array_view : Array L → SchemaOf X
  array_view = fold-Array L (PartOf X) (PartOf X) (SchemaOf X) (SchemaOf X) (SchemaOf X) (SchemaOf X) (SchemaOf X) additional_step items_step tree_step all_of_step array_step object_step one_of_step

  abbrev pub one_of_view : OneOfSchema L → SchemaOf X
  one_of_view = fold-OneOfSchema L (PartOf X) (PartOf X) (SchemaOf X) (SchemaOf X) (SchemaOf X) (SchemaOf X) (SchemaOf X) additional_step items_step tree_step all_of_step array_step object_step one_of_step

  abbrev pub all_of_view : AllOfSchema L → SchemaOf X
  all_of_view = fold-AllOfSchema L (PartOf X) (PartOf X) (SchemaOf X) (SchemaOf X) (SchemaOf X) (SchemaOf X) (SchemaOf X) additional_step items_step tree_step all_of_step array_step object_step one_of_step

  abbrev pub additional_view : Additional L → PartOf X
  additional_view = fold-Additional L (PartOf X) (PartOf X) (SchemaOf X) (SchemaOf X) (SchemaOf X) (SchemaOf X) (SchemaOf X) additional_step items_step tree_step all_of_step array_step object_step one_of_step

  abbrev pub array_items_view : ArrayItems L → PartOf X
  array_items_view = fold-ArrayItems L (PartOf X) (PartOf X) (SchemaOf X) (SchemaOf X) (SchemaOf X) (SchemaOf X) (SchemaOf X) additional_step items_step tree_step all_of_step array_step object_step one_of_step

  abbrev pub optional_view : Option (Tree L) → PartOf X
  optional_view t = part_of (option_map tree_view t)

  abbrev pub tree_views : List (Tree L) → SchemasOf X
  tree_views ts = schemas_of (map tree_view ts)

  abbrev pub named_view : List ℕ × Tree L → List ℕ × SchemaOf X
  named_view p = (p.0, tree_view p.1)

  abbrev pub named_views : List (List ℕ × Tree L) → PropertiesOf X
  named_views ps = properties_of (map named_view ps)

-- a schema whose leaves are references
abbrev pub schema_view : Tree RefLeaf → SchemaOf RefLeaf
schema_view = tree_view (λ l. l)
