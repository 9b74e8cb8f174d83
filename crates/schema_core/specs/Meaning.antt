-- What a schema accepts, told on the tree, and the laws that the JSON of the tree says the same.
use Rattle.std.specs.Prelude.{◌≡◌, ℕ, ℤ, List, [], ◌∷◌, Bool, true, false, ◌&&◌, ◌||◌, Option, Some, None, option_map, map as map_list, codes, int_le, pos, length, drop, IsTrue}
use Rattle.std.specs.List.{list_all, list_any}
use Rattle.acceptance.specs.Json.{Json, list, names, entries, no_members, put_all, look, same, distinct, on_map, on_list, on_number, if_there, member_of}
use Rattle.texts.specs.Names.{is_in, IsDistinct}
use Rattle.acceptance.specs.Acceptance.{kinds_of, others_pass, names_pass, accepts_with, component_schema}
use Rattle.acceptance.specs.References.{EachReference}
use Rattle.schema_trees.specs.declared.bounds.Bounds.{Bounds}
use Rattle.schema_trees.specs.declared.annotations.AnnotationKeywords.{AnnotationKeywords as Annotations}
use Rattle.schema_trees.specs.declared.tree.TypeWord.{TypeWord}
use Rattle.schema_trees.specs.declared.tree.TypeWord.TheVariants.{Any, One, Nullable}
use Rattle.schema_trees.specs.declared.tree.RefLeaf.{RefLeaf}
use Rattle.schema_trees.specs.Schema.{SchemaOf, leaf, object, array, one_of, all_of, SchemasOf, no_schemas, schema, schema_count, PropertiesOf, no_properties, property, property_names, PartOf, no_part, truth, part, EachLeaf}
use Rattle.schema_core.specs.declared.alternatives.Alternatives.{Alternatives}
use Rattle.schema_core.specs.declared.alternatives.Alternatives.TheVariants.{OneOf, AnyOf}
use Rattle.schema_core.specs.Form.{word_text, array_word, alternatives_word, form_by, schema_forms}
use Rattle.schema_core.specs.Document.{Entry, entry_form, document_by}
use Rattle.schema_core.specs.Entries.{entry_names, find, IsInOrder}

-- the value is of the word's kind
abbrev pub word_accepts : TypeWord → Json → Bool
word_accepts Any v = true
word_accepts (One w) v = is_in (word_text w) (kinds_of v)
word_accepts (Nullable w) v = is_in (word_text w) (kinds_of v) || is_in (codes "null") (kinds_of v)

-- the value is one of the values
abbrev pub enum_accepts : Option (List Json) → Json → Bool
enum_accepts None v = true
enum_accepts (Some xs) v = list_any (same v) xs

-- no two elements are equal
abbrev pub unique_accepts : Bool → Json → Bool
unique_accepts false v = true
unique_accepts true v = on_list v distinct

-- there are no more elements, and no fewer
abbrev pub max_items_accepts : Option ℤ → Json → Bool
max_items_accepts None v = true
max_items_accepts (Some n) v = on_list v (λ xs. int_le (pos (length xs)) n)

abbrev pub min_items_accepts : Option ℤ → Json → Bool
min_items_accepts None v = true
min_items_accepts (Some n) v = on_list v (λ xs. int_le n (pos (length xs)))

-- a number is at least the minimum
abbrev pub minimum_accepts : Option ℤ → Json → Bool
minimum_accepts None v = true
minimum_accepts (Some n) v = on_number v (λ m. int_le n m)

-- the value is within the bounds
abbrev pub bounds_accept : Bounds → Json → Bool
bounds_accept bounds v = minimum_accepts bounds.minimum v

-- a map has each of the names
abbrev pub required_accepts : List (List ℕ) → Json → Bool
required_accepts ks v = on_map v (λ es. list_all (λ k. is_in k (names es)) ks)

-- What a schema accepts, where `leaf_accepts` says what a leaf does.
abbrev mutual
  pub tree_accepts : {X : Type 0} → (X → Json → Bool) → SchemaOf X → Json → Bool
  tree_accepts leaf_accepts (leaf x) v = leaf_accepts x v
  tree_accepts leaf_accepts (object facts ps additional names) v =
      word_accepts facts.type_word v && (enum_accepts facts.enum_values v && (on_map v (properties_accept leaf_accepts ps)
      && (where_given leaf_accepts additional (λ accepts. on_map v (others_pass (property_names ps) accepts))
      && (where_given leaf_accepts names (λ accepts. on_map v (names_pass accepts))
      && (required_accepts facts.required v && bounds_accept facts.bounds v)))))
  tree_accepts leaf_accepts (array facts front rest) v =
      word_accepts (array_word facts.nullable) v && (unique_accepts facts.unique v && (max_items_accepts facts.max_items v && (min_items_accepts facts.min_items v
      && (on_list v (each_in_order leaf_accepts front) && where_given leaf_accepts rest (λ accepts. on_list v (λ xs. list_all accepts (drop (schema_count front) xs)))))))
  tree_accepts leaf_accepts (one_of annotations ss) v = some_accepts leaf_accepts ss v
  tree_accepts leaf_accepts (all_of annotations ss) v = all_accept leaf_accepts ss v

  -- what is asked of the values that a part accepts, where it is given
  pub where_given : {X : Type 0} → (X → Json → Bool) → PartOf X → ((Json → Bool) → Bool) → Bool
  where_given leaf_accepts no_part asked = true
  where_given leaf_accepts (truth b) asked = asked (λ v. b)
  where_given leaf_accepts (part s) asked = asked (tree_accepts leaf_accepts s)

  -- the elements in front are accepted by position, as far as both go
  pub each_in_order : {X : Type 0} → (X → Json → Bool) → SchemasOf X → List Json → Bool
  each_in_order leaf_accepts no_schemas vs = true
  each_in_order leaf_accepts (schema s ss) [] = true
  each_in_order leaf_accepts (schema s ss) (v ∷ vs) = tree_accepts leaf_accepts s v && each_in_order leaf_accepts ss vs

  -- each of the schemas accepts
  pub all_accept : {X : Type 0} → (X → Json → Bool) → SchemasOf X → Json → Bool
  all_accept leaf_accepts no_schemas v = true
  all_accept leaf_accepts (schema s ss) v = tree_accepts leaf_accepts s v && all_accept leaf_accepts ss v

  -- at least one of the schemas accepts
  pub some_accepts : {X : Type 0} → (X → Json → Bool) → SchemasOf X → Json → Bool
  some_accepts leaf_accepts no_schemas v = false
  some_accepts leaf_accepts (schema s ss) v = tree_accepts leaf_accepts s v || some_accepts leaf_accepts ss v

  -- each member that a property is named for is accepted by it
  pub properties_accept : {X : Type 0} → (X → Json → Bool) → PropertiesOf X → List (List ℕ × Json) → Bool
  properties_accept leaf_accepts no_properties es = true
  properties_accept leaf_accepts (property k s ps) es = if_there (look k es) (tree_accepts leaf_accepts s) && properties_accept leaf_accepts ps es

-- no object of the tree names a property twice
abbrev mutual
  pub IsProper : {X : Type 0} → SchemaOf X → Type 0
  IsProper (leaf x) = Unit {0}
  IsProper (object facts ps additional names) = IsDistinct (property_names ps) × (ArePropertiesProper ps × (IsPartProper additional × IsPartProper names))
  IsProper (array facts front rest) = AreProper front × IsPartProper rest
  IsProper (one_of annotations ss) = AreProper ss
  IsProper (all_of annotations ss) = AreProper ss

  pub IsPartProper : {X : Type 0} → PartOf X → Type 0
  IsPartProper no_part = Unit {0}
  IsPartProper (truth b) = Unit {0}
  IsPartProper (part s) = IsProper s

  pub AreProper : {X : Type 0} → SchemasOf X → Type 0
  AreProper no_schemas = Unit {0}
  AreProper (schema s ss) = IsProper s × AreProper ss

  pub ArePropertiesProper : {X : Type 0} → PropertiesOf X → Type 0
  ArePropertiesProper no_properties = Unit {0}
  ArePropertiesProper (property k s ps) = IsProper s × ArePropertiesProper ps

-- The JSON of a schema accepts what the tree accepts, under either keyword of alternatives; so too the laws below.
abbrev pub FormsAccept : Type 0
FormsAccept = (by : Alternatives) (component : List ℕ → Json → Bool) (s : SchemaOf RefLeaf) → IsProper s → (v : Json) → accepts_with component (form_by by s) v ≡ tree_accepts (λ r. component r.name) s v

-- The references of the JSON of a schema are its leaves: what passes at each leaf's name passes at each reference.
abbrev pub FormsRefer : Type 0
FormsRefer = (by : Alternatives) (passes : List ℕ → Bool) (s : SchemaOf RefLeaf) → EachLeaf (λ r. IsTrue (passes r.name)) s → EachReference (λ name. IsTrue (passes name)) (form_by by s)

-- what stands under one keyword of alternatives, and not under the other
abbrev pub under : Alternatives → Alternatives → Json → Option Json
under OneOf OneOf x = Some x
under AnyOf AnyOf x = Some x
under _ _ x = None

-- The law: a schema that is one of several has the forms of these under its keyword of alternatives alone.
abbrev pub OneOfHolds : Type 0
OneOfHolds = (by word : Alternatives) (annotations : Annotations) (ss : SchemasOf RefLeaf) → member_of (alternatives_word word) (form_by by (one_of annotations ss)) ≡ under by word (list (schema_forms by ss))

-- The document has under each name the form of the entry of that name.
abbrev pub DocumentsHold : Type 0
DocumentsHold = (by : Alternatives) (es : List Entry) → IsDistinct (entry_names es) → (name : List ℕ) → component_schema (document_by by es) name ≡ option_map (form_by by) (find name es)

-- The law: the map of a document's schemas has the forms of the entries, in their order, where names are in byte order.
abbrev pub DocumentsAreInOrder : Type 0
DocumentsAreInOrder = (by : Alternatives) (es : List Entry) → IsInOrder (entry_names es) → entries (put_all (map_list (entry_form by) es) no_members) ≡ map_list (entry_form by) es
