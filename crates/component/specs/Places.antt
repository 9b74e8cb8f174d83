-- The schema of a place by its type (JSON Schema 2020-12; OpenAPI 3.1, "Schema Object"), over parameters and declarations.
use Rattle.std.specs.Prelude.{ℕ, List, Bool, true, false, cond, ℤ, pos, Option, Some, None}
use Rattle.schema_trees.specs.declared.tree.SchemaTypeInner.{SchemaTypeInner}
use Rattle.schema_trees.specs.declared.tree.SchemaTypeInner.TheVariants as word
use Rattle.schema_trees.specs.declared.tree.TypeWord.{TypeWord}
use Rattle.schema_trees.specs.declared.tree.TypeWord.TheVariants.{Any, One, Nullable}
use Rattle.schema_trees.specs.declared.annotations.AnnotationKeywords.{AnnotationKeywords as Annotations}
use Rattle.schema_trees.specs.declared.bounds.Bounds.{Bounds}
use Rattle.schema_trees.specs.Bounds.{at_least}
use Rattle.schema_trees.specs.Annotations.{no_annotations, annotated, described, null_default}
use Rattle.schema_trees.specs.Objects.{word_facts, with_format, with_bounds, only_word}
use Rattle.schema_trees.specs.Schema.{SchemaOf, object, array, one_of, all_of, SchemasOf, no_schemas, schema, no_properties, no_part, truth, part}
use Rattle.schema_trees.specs.Schema as tree
use Rattle.leaves.specs.declared.leaf.Leaf.{Leaf}
use Rattle.leaves.specs.declared.leaf.LeafKind.{LeafKind}
use Rattle.leaves.specs.declared.leaf.LeafKind.TheVariants as kinds
use Rattle.leaves.specs.Leaves.{kind_of, format_of}
use Rattle.open_types.specs.Open.{Open, Opens, leaf, any_value, free_object, unit, tuple, items, set, map_of, option, through, no_types, more_types}
use Rattle.open_types.specs.Open as types
use Rattle.component.specs.declared.place.Place.{Place}
use Rattle.component.specs.Leaves.{LeafOf, param, named}

-- the word of `type` for a kind, and the least number, where there is one
abbrev pub word_of : LeafKind → SchemaTypeInner
word_of kinds.Text = word.String
word_of kinds.Boolean = word.Boolean
word_of kinds.Signed = word.Integer
word_of kinds.Unsigned = word.Integer
word_of kinds.Float = word.Number

abbrev pub minimum_of : LeafKind → Option ℤ
minimum_of kinds.Text = None
minimum_of kinds.Boolean = None
minimum_of kinds.Signed = None
minimum_of kinds.Unsigned = Some (pos 0)
minimum_of kinds.Float = None

abbrev pub bounds_of : LeafKind → Bounds
bounds_of x = at_least (minimum_of x)

abbrev pub type_word : Bool → SchemaTypeInner → TypeWord
type_word false w = One w
type_word true w = Nullable w

-- ---- schemas

abbrev pub null_alone : {X : Type 0} → SchemaOf X
null_alone = only_word (One word.Null) no_annotations

-- the schema or null
abbrev pub one_of_null : {X : Type 0} → Annotations → SchemaOf X → SchemaOf X
one_of_null annotations s = one_of annotations (schema s (schema null_alone no_schemas))

-- the schema, or null where it may be
abbrev pub or_null : {X : Type 0} → Bool → SchemaOf X → SchemaOf X
or_null false s = s
or_null true s = one_of_null no_annotations s

-- the schema beside a description, where there is one
abbrev pub beside : {X : Type 0} → Option (List ℕ) → SchemaOf X → SchemaOf X
beside None s = s
beside (Some text) s = all_of no_annotations (schema s (schema (only_word Any (described (Some text))) no_schemas))

-- a schema that stands there itself: with null, or beside its description
abbrev pub in_place : {X : Type 0} → Bool → Option (List ℕ) → SchemaOf X → SchemaOf X
in_place false description s = beside description s
in_place true description s = one_of_null (described description) s

abbrev pub leaf_object : {X : Type 0} → Bool → Annotations → Leaf → SchemaOf X
leaf_object nullable annotations x =
    object (with_bounds (bounds_of (kind_of x)) (with_format (format_of x) (word_facts (type_word nullable (word_of (kind_of x))) annotations)))
    no_properties no_part no_part

-- a list of what the schema accepts, whose elements are distinct where it is `unique`
abbrev pub list_of : {X : Type 0} → Bool → Bool → Annotations → SchemaOf X → SchemaOf X
list_of unique nullable annotations s = array (record { nullable = nullable; unique = unique; max_items = None; min_items = None; annotations = annotations }) no_schemas (part s)

-- a list of no more elements than the schemas, which accept them by position
abbrev pub tuple_of : {X : Type 0} → Bool → Annotations → SchemasOf X → SchemaOf X
tuple_of nullable annotations ss = array (record { nullable = nullable; unique = false; max_items = None; min_items = None; annotations = annotations }) ss (truth false)

-- a map whose names and values the schemas accept
abbrev pub map_object : {X : Type 0} → Bool → Annotations → (names values : SchemaOf X) → SchemaOf X
map_object nullable annotations names values =
    object (word_facts (type_word nullable word.Object) annotations) no_properties (part values) (part names)

-- ---- places

-- A place, beside its type: whether null may stand there, whether declarations are inline, whether it is deprecated, and its description.
pub record PlaceOf : Type 0 where
  pub nullable : Bool
  pub inline : Bool
  pub deprecated : Bool
  pub description : Option (List ℕ)

abbrev pub place_view : Place → PlaceOf
place_view at = record { nullable = at.nullable; inline = at.inline; deprecated = at.deprecated; description = at.description.now }

-- a place inside another: an element, a name or a value
abbrev pub inside : Bool → PlaceOf
inside inline = record { nullable = false; inline = inline; deprecated = false; description = None }

-- the place, where null may stand too
abbrev pub with_null : PlaceOf → PlaceOf
with_null at = record at { nullable = true }

abbrev pub annotations_at : PlaceOf → Annotations
annotations_at at = annotated at.deprecated at.description

-- a leaf, which stands there itself where it is inline
abbrev pub leaf_at : PlaceOf → LeafOf → SchemaOf LeafOf
leaf_at at x = cond at.inline (in_place at.nullable at.description (tree.leaf x)) (or_null at.nullable (tree.leaf x))

-- a declaration: a reference with its description, or its schema in place
abbrev pub declared : PlaceOf → Open → SchemaOf LeafOf
declared at t = leaf_at at (named t at.inline (cond at.inline no_annotations (described at.description)))

-- the schema of an argument, which has no description but where it is inline
abbrev pub argument : PlaceOf → ℕ → SchemaOf LeafOf
argument at i = leaf_at at (param i)

-- the schema of a place of the type
abbrev mutual
  pub place : PlaceOf → Open → SchemaOf LeafOf
  place at (leaf x) = leaf_object at.nullable (annotations_at at) x
  place at any_value = only_word Any (annotations_at at)
  place at free_object = only_word (type_word at.nullable word.Object) (annotations_at at)
  place at unit = only_word Any (null_default None)
  place at (tuple ts) = tuple_of at.nullable (annotations_at at) (inline_places ts)
  place at (items h t) = list_of false at.nullable (annotations_at at) (place (inside at.inline) t)
  place at (set h t) = list_of true at.nullable (annotations_at at) (place (inside at.inline) t)
  place at (map_of h k t) = map_object at.nullable (annotations_at at) (place (inside true) k) (place (inside at.inline) t)
  place at (option t) = place (with_null at) t
  place at (through h t) = place at t
  place at (types.param i) = argument at i
  place at (types.named d ts) = declared at (types.named d ts)

  -- the items of a tuple
  pub inline_places : Opens → SchemasOf LeafOf
  inline_places no_types = no_schemas
  inline_places (more_types t ts) = schema (place (inside true) t) (inline_places ts)

-- the type of a parameter of a request: where it is an option, null need not be said
abbrev pub without_option : Open → Open
without_option (option t) = t
without_option t = t

abbrev pub parameter_type : Bool → Open → Open
parameter_type option_is_nullable t = cond option_is_nullable t (without_option t)
