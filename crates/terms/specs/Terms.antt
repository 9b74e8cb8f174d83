-- The schemas of declarations, over the declarations that their types name.
use Rattle.std.specs.Prelude.{ℕ, ℤ, Option, List, [], ◌∷◌, ◌++◌, Bool, true, false, ◌&&◌, cond, pos, length, map, Some, None}
use Rattle.acceptance.specs.Json.{Json, null, text, number}
use Rattle.schema_trees.specs.declared.tree.SchemaTypeInner.TheVariants as word
use Rattle.schema_trees.specs.declared.tree.TypeWord.TheVariants.{Any, One}
use Rattle.schema_trees.specs.declared.annotations.AnnotationKeywords.{AnnotationKeywords}
use Rattle.schema_trees.specs.Schema.{Facts, SchemaOf, object, array, one_of, all_of, SchemasOf, no_schemas, schema, schemas_of, PropertiesOf, no_properties, property, PartOf, no_part, truth, part}
use Rattle.leaves.specs.declared.leaf.Leaf.{Leaf}
use Rattle.leaves.specs.Leaves.{kind_of, format_of}
use Rattle.open_types.specs.Open.{Open}
use Rattle.open_types.specs.Open as types
use Rattle.open_types.specs.Same.{same_type}
use Rattle.component.specs.Leaves.{LeafOf}
use Rattle.schema_trees.specs.Bounds.{no_bounds}
use Rattle.schema_trees.specs.Annotations.{annotations_of, no_annotations, where_true, annotated, described, null_default}
use Rattle.schema_trees.specs.Objects.{word_facts, with_format, with_required, with_bounds, only_word}
use Rattle.component.specs.Places.{bounds_of, PlaceOf, inside, one_of_null, place}
use Rattle.shapes.specs.declared.annotations.Annotations.{Annotations}
use Rattle.shapes.specs.declared.tagging.Tagging.{Tagging}
use Rattle.shapes.specs.declared.tagging.Tagging.TheVariants.{External, Internal, Adjacent, Untagged}
use Rattle.shapes.specs.Declarations.{MemberOf, FlattenedOf, FlattenedMapOf, Others, any, none, each, others_of, FormOf, named_fields, unnamed_fields, no_fields, VariantOf, BodyOf, fields, units, numbers, variants, DeclarationOf, unannotated}

-- what is said, as keywords of a schema
abbrev pub keywords_of : Annotations → AnnotationKeywords
keywords_of annotations = annotated annotations.deprecated annotations.description

-- the place of a field
abbrev pub field_place : Annotations → PlaceOf
field_place annotations = record (inside false) { deprecated = annotations.deprecated; description = annotations.description }

abbrev pub field_term : Annotations → Open → SchemaOf LeafOf
field_term annotations t = place (field_place annotations) t

abbrev pub properties_of : List MemberOf → PropertiesOf LeafOf
properties_of [] = no_properties
properties_of (m ∷ ms) = property m.name (field_term m.annotations m.of) (properties_of ms)

abbrev pub required_names : List MemberOf → List (List ℕ)
required_names [] = []
required_names (m ∷ ms) = cond m.required (m.name ∷ required_names ms) (required_names ms)

-- the place of a flattened map's values, where null may be
abbrev pub value_place : Bool → Annotations → PlaceOf
value_place nullable annotations = record (field_place annotations) { nullable = nullable }

-- The schema of the values of a flattened map, where null may be. What is said of the map is said of them: nothing of an argument, with null or not; of a reference the description alone, but beside null all, on the whole; of anything else all.
abbrev pub values_term : Annotations → Bool → Open → SchemaOf LeafOf
values_term annotations nullable (types.option t) = values_term annotations true t
values_term annotations nullable (types.through h t) = values_term annotations nullable t
values_term annotations nullable types.unit = only_word Any (annotations_of annotations.description (Some null) (where_true annotations.deprecated))
values_term annotations true (types.named d ts) = one_of_null (keywords_of annotations) (place (inside false) (types.named d ts))
values_term annotations nullable t = place (value_place nullable annotations) t

-- what members other than the properties may be: where they are denied, nothing
abbrev pub others_part : Others → PartOf LeafOf
others_part any = no_part
others_part none = truth false
others_part (each m) = part (values_term m.annotations false m.value)

-- an object with these properties, beside which others may be so
abbrev pub object_of : {X : Type 0} → AnnotationKeywords → PartOf X → List (List ℕ) → PropertiesOf X → SchemaOf X
object_of keywords others required ps =
    object (with_required required (word_facts (One word.Object) keywords)) ps others no_part

-- the object of a form's own members
abbrev pub own_term : AnnotationKeywords → Others → List MemberOf → SchemaOf LeafOf
own_term keywords o ms = object_of keywords (others_part o) (required_names ms) (properties_of ms)

-- beside what is flattened it stands where it has a property or a map, whose values the others then are
abbrev pub own_beside : Option FlattenedMapOf → Others → List MemberOf → SchemasOf LeafOf → SchemasOf LeafOf
own_beside None o [] more = more
own_beside None o (m ∷ ms) more = schema (own_term no_annotations o (m ∷ ms)) more
own_beside (Some x) o ms more = schema (own_term no_annotations o ms) more

-- the schemas of what is flattened, in front of others
abbrev pub flattened_terms : List FlattenedOf → SchemasOf LeafOf → SchemasOf LeafOf
flattened_terms [] more = more
flattened_terms (f ∷ fs) more = schema (field_term f.annotations f.of) (flattened_terms fs more)

-- the own object alone, or all of what is flattened and it
abbrev pub named_term : Annotations → List FlattenedOf → Option FlattenedMapOf → Others → List MemberOf → SchemaOf LeafOf
named_term annotations [] x o ms = own_term (keywords_of annotations) o ms
named_term annotations (f ∷ fs) x o ms = all_of (keywords_of annotations) (flattened_terms (f ∷ fs) (own_beside x o ms no_schemas))

-- a list of so many elements; the schemas in front accept the first of them by position, the rest accepts the others
abbrev pub list_of_length : {X : Type 0} → ℕ → AnnotationKeywords → SchemasOf X → PartOf X → SchemaOf X
list_of_length n keywords front rest = array (record { nullable = false; unique = false; max_items = Some (pos n); min_items = Some (pos n); annotations = keywords }) front rest

-- the types are all the same
abbrev pub are_all : Open → List Open → Bool
are_all t [] = true
are_all t (u ∷ us) = same_type t u && are_all t us

-- several fields of one type: a list of so many of that type; what stands in the list is deprecated, not the list
abbrev pub alike_term : Annotations → ℕ → Open → SchemaOf LeafOf
alike_term annotations n t = list_of_length n (described annotations.description) no_schemas (part (field_term annotations t))

-- the schemas of fields of which nothing is said
abbrev pub field_terms : List Open → SchemasOf LeafOf
field_terms ts = schemas_of (map (field_term unannotated) ts)

-- fields of any types: a list of just these, in their order
abbrev pub mixed_term : Annotations → List Open → SchemaOf LeafOf
mixed_term annotations ts = list_of_length (length ts) (keywords_of annotations) (field_terms ts) (truth false)

-- One field is read as its content, several as a list of them.
abbrev pub unnamed_term : Annotations → List Open → SchemaOf LeafOf
unnamed_term annotations [] = mixed_term annotations []
unnamed_term annotations (t ∷ []) = field_term annotations t
unnamed_term annotations (t ∷ u ∷ us) = cond (are_all t (u ∷ us)) (alike_term annotations (length (t ∷ u ∷ us)) t) (mixed_term annotations (t ∷ u ∷ us))

-- null as the default is not deprecated
abbrev pub form_term : Annotations → FormOf → SchemaOf LeafOf
form_term annotations (named_fields b ms) = named_term annotations b.flattened b.map (others_of b) ms
form_term annotations (unnamed_fields ts) = unnamed_term annotations ts
form_term annotations no_fields = only_word Any (null_default annotations.description)

-- ---- enums

-- one of the texts
abbrev pub texts_facts : AnnotationKeywords → List Json → Facts
texts_facts keywords texts = record {
  type_word = One word.String;
  format = None;
  enum_values = Some texts;
  required = [];
  bounds = no_bounds;
  annotations = keywords;
}

abbrev pub texts_schema : {X : Type 0} → AnnotationKeywords → List (List ℕ) → SchemaOf X
texts_schema keywords names = object (texts_facts keywords (map text names)) no_properties no_part no_part

-- an object that has this member, and perhaps others
abbrev pub requiring : {X : Type 0} → AnnotationKeywords → List ℕ → SchemaOf X → SchemaOf X
requiring keywords k s = object_of keywords no_part (k ∷ []) (property k s no_properties)

-- the name of a variant as a text
abbrev pub tag_schema : {X : Type 0} → List ℕ → SchemaOf X
tag_schema name = texts_schema no_annotations (name ∷ [])

-- an object that has a tag with the name as its text, and perhaps other members
abbrev pub tag_alone : {X : Type 0} → AnnotationKeywords → (tag name : List ℕ) → SchemaOf X
tag_alone keywords tag name = requiring keywords tag (tag_schema name)

-- null, which is the default too
abbrev pub null_term : Annotations → SchemaOf LeafOf
null_term annotations = only_word (One word.Null) (annotations_of annotations.description (Some null) (where_true annotations.deprecated))

-- an object with a tag for each of the names
abbrev pub tags_term : Annotations → (tag : List ℕ) → List (List ℕ) → SchemaOf LeafOf
tags_term annotations tag names = one_of (keywords_of annotations) (schemas_of (map (tag_alone no_annotations tag) names))

-- variants without fields: one of their names, an object with a tag for each, or null
abbrev pub units_term : Annotations → Tagging → List (List ℕ) → SchemaOf LeafOf
units_term annotations External names = texts_schema (keywords_of annotations) names
units_term annotations (Internal tag) names = tags_term annotations tag names
units_term annotations (Adjacent tag content) names = tags_term annotations tag names
units_term annotations Untagged names = null_term annotations

-- one of the whole numbers
abbrev pub numbers_schema : {X : Type 0} → AnnotationKeywords → List ℤ → SchemaOf X
numbers_schema keywords ns = object (record (word_facts (One word.Integer) keywords) { enum_values = Some (map number ns) }) no_properties no_part no_part

-- an object that has a tag with the number, and perhaps other members
abbrev pub number_alone : {X : Type 0} → (tag : List ℕ) → ℤ → SchemaOf X
number_alone tag n = requiring no_annotations tag (numbers_schema no_annotations (n ∷ []))

abbrev pub number_tags : Annotations → (tag : List ℕ) → List ℤ → SchemaOf LeafOf
number_tags annotations tag ns = one_of (keywords_of annotations) (schemas_of (map (number_alone tag) ns))

-- variants without fields, by the numbers that stand for them
abbrev pub numbers_term : Annotations → Tagging → List ℤ → SchemaOf LeafOf
numbers_term annotations External ns = numbers_schema (keywords_of annotations) ns
numbers_term annotations (Internal tag) ns = number_tags annotations tag ns
numbers_term annotations (Adjacent tag content) ns = number_tags annotations tag ns
numbers_term annotations Untagged ns = null_term annotations

-- ---- enums of which a variant has fields

-- a variant without fields
abbrev pub unit_term : Annotations → Tagging → List ℕ → SchemaOf LeafOf
unit_term annotations External name = texts_schema (keywords_of annotations) (name ∷ [])
unit_term annotations (Internal tag) name = tag_alone (keywords_of annotations) tag name
unit_term annotations (Adjacent tag content) name = tag_alone (keywords_of annotations) tag name
unit_term annotations Untagged name = null_term annotations

-- properties, and one behind them
abbrev pub with_property : {X : Type 0} → PropertiesOf X → List ℕ → SchemaOf X → PropertiesOf X
with_property no_properties k s = property k s no_properties
with_property (property j t ps) k s = property j t (with_property ps k s)

-- a schema beside an object that has the tag
abbrev pub beside_tag : {X : Type 0} → AnnotationKeywords → (tag name : List ℕ) → SchemaOf X → SchemaOf X
beside_tag keywords tag name s = all_of keywords (schema s (schema (tag_alone no_annotations tag name) no_schemas))

-- the facts of an object that has a tag, with the format and the bounds of a built-in name
abbrev pub tagged_leaf : AnnotationKeywords → (tag : List ℕ) → Leaf → Facts
tagged_leaf keywords tag x =
    with_required (tag ∷ []) (with_bounds (bounds_of (kind_of x)) (with_format (format_of x) (word_facts (One word.Object) keywords)))

-- a content with its tag: a leaf or any value becomes an object that has the tag, anything else stands beside one
abbrev pub tagged_content : AnnotationKeywords → (tag name : List ℕ) → Open → SchemaOf LeafOf → SchemaOf LeafOf
tagged_content keywords tag name (types.leaf x) s = object (tagged_leaf keywords tag x) (property tag (tag_schema name) no_properties) no_part no_part
tagged_content keywords tag name types.any_value s = tag_alone keywords tag name
tagged_content keywords tag name _ s = beside_tag keywords tag name s

-- the tag as a last member, or beside what is flattened in a last object, of which the same is said
abbrev pub tagged_term : Annotations → (tag name : List ℕ) → List FlattenedOf → Option FlattenedMapOf → Others → List MemberOf → SchemaOf LeafOf
tagged_term annotations tag name [] x o ms =
    object_of (keywords_of annotations) (others_part o) (required_names ms ++ tag ∷ []) (with_property (properties_of ms) tag (tag_schema name))
tagged_term annotations tag name (f ∷ fs) x o ms =
    all_of (keywords_of annotations) (flattened_terms (f ∷ fs) (own_beside x o ms (schema (tag_alone (keywords_of annotations) tag name) no_schemas)))

-- the tag among the members, or beside a content
abbrev pub internal_term : Annotations → (tag name : List ℕ) → FormOf → SchemaOf LeafOf
internal_term annotations tag name (named_fields b ms) = tagged_term annotations tag name b.flattened b.map (others_of b) ms
internal_term annotations tag name (unnamed_fields (t ∷ [])) = tagged_content (keywords_of annotations) tag name t (unnamed_term annotations (t ∷ []))
internal_term annotations tag name (unnamed_fields ts) = beside_tag (keywords_of annotations) tag name (unnamed_term annotations ts)
internal_term annotations tag name no_fields = tag_alone (keywords_of annotations) tag name

-- a content and a tag
abbrev pub adjacent_term : {X : Type 0} → AnnotationKeywords → (tag content name : List ℕ) → SchemaOf X → SchemaOf X
adjacent_term keywords tag content name s = object_of keywords no_part (content ∷ tag ∷ []) (property content s (property tag (tag_schema name) no_properties))

-- a variant with fields: under its name, with a tag, or as it is. What is said of it stands on the whole, and on the fields where they stand in it; beside what is flattened on the object of the tag instead.
abbrev pub told_term : Annotations → Tagging → (name : List ℕ) → FormOf → SchemaOf LeafOf
told_term annotations External name form = requiring (keywords_of annotations) name (form_term annotations form)
told_term annotations (Internal tag) name form = internal_term annotations tag name form
told_term annotations (Adjacent tag content) name form = adjacent_term (keywords_of annotations) tag content name (form_term annotations form)
told_term annotations Untagged name form = form_term annotations form

abbrev pub variant_form : Annotations → Tagging → (name : List ℕ) → FormOf → SchemaOf LeafOf
variant_form annotations tagging name no_fields = unit_term annotations tagging name
variant_form annotations tagging name (named_fields b ms) = told_term annotations tagging name (named_fields b ms)
variant_form annotations tagging name (unnamed_fields ts) = told_term annotations tagging name (unnamed_fields ts)

abbrev pub variant_term : Tagging → VariantOf → SchemaOf LeafOf
variant_term tagging x = variant_form x.annotations tagging x.name x.form

-- ---- declarations

abbrev pub body_term : Annotations → BodyOf → SchemaOf LeafOf
body_term annotations (fields form) = form_term annotations form
body_term annotations (units tagging names) = units_term annotations tagging names
body_term annotations (numbers tagging ns) = numbers_term annotations tagging ns
body_term annotations (variants tagging xs) = one_of (keywords_of annotations) (schemas_of (map (variant_term tagging) xs))

-- The schema of a declaration: of a struct an object with a property for each member, a list or its content, or null as the default; of an enum its variants.
abbrev pub term : DeclarationOf → SchemaOf LeafOf
term s = body_term s.annotations s.body
