-- The JSON of a schema (JSON Schema 2020-12; OpenAPI 3.1, "Schema Object", "Reference Object").
use Rattle.std.specs.Prelude.{ℕ, Bool, true, false, List, [], ◌∷◌, ◌++◌, Option, Some, None, option_map, codes}
use Rattle.acceptance.specs.Json.{Json, boolean, number, text, list, map, Items, no_items, item, Members, no_members, put_given, map_of}
use Rattle.schema_trees.specs.declared.bounds.Bounds.{Bounds}
use Rattle.schema_trees.specs.declared.annotations.AnnotationKeywords.{AnnotationKeywords as Annotations}
use Rattle.schema_trees.specs.declared.tree.SchemaTypeInner.{SchemaTypeInner}
use Rattle.schema_trees.specs.declared.tree.SchemaTypeInner.TheVariants as word
use Rattle.schema_trees.specs.declared.tree.TypeWord.{TypeWord}
use Rattle.schema_trees.specs.declared.tree.TypeWord.TheVariants.{Any, One, Nullable}
use Rattle.schema_trees.specs.declared.tree.RefLeaf.{RefLeaf}
use Rattle.schema_core.specs.declared.alternatives.Alternatives.{Alternatives}
use Rattle.schema_core.specs.declared.alternatives.Alternatives.TheVariants.{OneOf, AnyOf}
use Rattle.schema_trees.specs.Schema.{Facts, ArrayFacts, SchemaOf, leaf, object, array, one_of, all_of, SchemasOf, no_schemas, schema, PropertiesOf, no_properties, property, PartOf, no_part, truth, part}

abbrev pub word_text : SchemaTypeInner → List ℕ
word_text word.Object = codes "object"
word_text word.String = codes "string"
word_text word.Integer = codes "integer"
word_text word.Number = codes "number"
word_text word.Boolean = codes "boolean"
word_text word.Array = codes "array"
word_text word.Null = codes "null"

-- `type`: a word, or a list of a word and `null`
abbrev pub type_form : TypeWord → Option Json
type_form Any = None
type_form (One w) = Some (text (word_text w))
type_form (Nullable w) = Some (list (item (text (word_text w)) (item (text (codes "null")) no_items)))

abbrev pub texts_form : List (List ℕ) → Items
texts_form [] = no_items
texts_form (k ∷ ks) = item (text k) (texts_form ks)

-- the list of the names, where there are any
abbrev pub required_form : List (List ℕ) → Option Json
required_form [] = None
required_form (k ∷ ks) = Some (list (texts_form (k ∷ ks)))

-- the map of the entries, where there are any
abbrev pub entries_form : List (List ℕ × Json) → Option Json
entries_form [] = None
entries_form (e ∷ es) = Some (map_of (e ∷ es))

-- the list of the schemas, where there are any
abbrev pub schemas_form : Items → Option Json
schemas_form no_items = None
schemas_form (item x xs) = Some (list (item x xs))

abbrev pub value_items : List Json → Items
value_items [] = no_items
value_items (x ∷ xs) = item x (value_items xs)

-- the list of the values, an empty one too
abbrev pub values_form : Option (List Json) → Option Json
values_form None = None
values_form (Some xs) = Some (list (value_items xs))

-- where it is true
abbrev pub true_form : Bool → Option Json
true_form false = None
true_form true = Some (boolean true)

-- the word of an array, with null or without
abbrev pub array_word : Bool → TypeWord
array_word false = One word.Array
array_word true = Nullable word.Array

-- the members that are given, in byte order of their names
abbrev pub put_fields : List (List ℕ × Option Json) → Members → Members
put_fields [] ms = ms
put_fields (f ∷ fs) ms = put_fields fs (put_given f.0 f.1 ms)

abbrev pub fields_form : List (List ℕ × Option Json) → Json
fields_form fs = map (put_fields fs no_members)

abbrev pub annotation_fields : Annotations → List (List ℕ × Option Json)
annotation_fields annotations =
    (codes "title", option_map text annotations.title) ∷ (codes "description", option_map text annotations.description)
    ∷ (codes "default", annotations.default) ∷ (codes "example", annotations.example) ∷ (codes "examples", values_form annotations.examples)
    ∷ (codes "deprecated", option_map boolean annotations.deprecated) ∷ (codes "readOnly", option_map boolean annotations.read_only) ∷ (codes "writeOnly", option_map boolean annotations.write_only)
    ∷ (codes "contentEncoding", option_map text annotations.content_encoding) ∷ (codes "contentMediaType", option_map text annotations.content_media_type) ∷ []

abbrev pub bound_fields : Bounds → List (List ℕ × Option Json)
bound_fields bounds = (codes "minimum", option_map number bounds.minimum) ∷ []

abbrev pub object_fields : Facts → List (List ℕ × Json) → (additional names : Option Json) → List (List ℕ × Option Json)
object_fields facts properties additional names =
    (codes "type", type_form facts.type_word) ∷ (codes "format", option_map text facts.format) ∷ (codes "enum", values_form facts.enum_values)
    ∷ (codes "properties", entries_form properties) ∷ (codes "additionalProperties", additional) ∷ (codes "propertyNames", names)
    ∷ (codes "required", required_form facts.required) ∷ (bound_fields facts.bounds ++ annotation_fields facts.annotations)

abbrev pub array_fields : ArrayFacts → Items → Option Json → List (List ℕ × Option Json)
array_fields facts front rest =
    (codes "type", type_form (array_word facts.nullable)) ∷ (codes "uniqueItems", true_form facts.unique)
    ∷ (codes "maxItems", option_map number facts.max_items) ∷ (codes "minItems", option_map number facts.min_items)
    ∷ (codes "prefixItems", schemas_form front) ∷ (codes "items", rest) ∷ annotation_fields facts.annotations

-- the keyword of schemas of which at least one accepts
abbrev pub alternatives_word : Alternatives → List ℕ
alternatives_word OneOf = codes "oneOf"
alternatives_word AnyOf = codes "anyOf"

abbrev pub one_of_fields : Alternatives → Annotations → Items → List (List ℕ × Option Json)
one_of_fields by annotations schemas = (alternatives_word by, Some (list schemas)) ∷ annotation_fields annotations

abbrev pub all_of_fields : Annotations → Items → List (List ℕ × Option Json)
all_of_fields annotations schemas = (codes "allOf", Some (list schemas)) ∷ annotation_fields annotations

abbrev pub reference_text : List ℕ → List ℕ
reference_text name = codes "#/components/schemas/" ++ name

abbrev pub reference_fields : RefLeaf → List (List ℕ × Option Json)
reference_fields r = (codes "$ref", Some (text (reference_text r.name))) ∷ annotation_fields r.annotations

-- The JSON of a schema, with alternatives under that keyword: the members that are given, in byte order of their names.
abbrev mutual
  pub form_by : Alternatives → SchemaOf RefLeaf → Json
  form_by by (leaf r) = fields_form (reference_fields r)
  form_by by (object facts ps additional names) = fields_form (object_fields facts (property_forms by ps) (part_form by additional) (part_form by names))
  form_by by (array facts front rest) = fields_form (array_fields facts (schema_forms by front) (part_form by rest))
  form_by by (one_of annotations ss) = fields_form (one_of_fields by annotations (schema_forms by ss))
  form_by by (all_of annotations ss) = fields_form (all_of_fields annotations (schema_forms by ss))

  pub part_form : Alternatives → PartOf RefLeaf → Option Json
  part_form by no_part = None
  part_form by (truth b) = Some (boolean b)
  part_form by (part s) = Some (form_by by s)

  pub schema_forms : Alternatives → SchemasOf RefLeaf → Items
  schema_forms by no_schemas = no_items
  schema_forms by (schema s ss) = item (form_by by s) (schema_forms by ss)

  pub property_forms : Alternatives → PropertiesOf RefLeaf → List (List ℕ × Json)
  property_forms by no_properties = []
  property_forms by (property k s ps) = (k, form_by by s) ∷ property_forms by ps

-- The JSON of a schema, with alternatives under `oneOf`.
abbrev pub form : SchemaOf RefLeaf → Json
form = form_by OneOf
