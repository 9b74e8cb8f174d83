-- Flattened fields, flattened maps and numbers, computed: their schemas, and which of these carry what is said.
use Rattle.std.proofs.Common.{ℤ, pos, List, [], ◌∷◌, Bool, true, false, Option, Some, None, codes, ◌≡◌, refl}
use Rattle.acceptance.specs.Json.{number}
use Rattle.leaves.specs.declared.leaf.Leaf.TheVariants.{U8, String as StringLeaf}
use Rattle.schema_trees.specs.declared.tree.SchemaTypeInner.TheVariants as word
use Rattle.schema_trees.specs.declared.tree.TypeWord.TheVariants.{One}
use Rattle.schema_trees.specs.declared.annotations.AnnotationKeywords.{AnnotationKeywords}
use Rattle.schema_trees.specs.Annotations.{no_annotations, annotated, described}
use Rattle.schema_trees.specs.Objects.{word_facts}
use Rattle.schema_trees.specs.Schema.{SchemaOf, object, one_of, all_of, no_schemas, schema, no_properties, property, PartOf, no_part, truth, part}
use Rattle.schema_trees.specs.Schema as tree
use Rattle.open_types.specs.Open.{Open, leaf, option, param, named, no_types}
use Rattle.component.specs.Leaves.{LeafOf}
use Rattle.component.specs.Leaves as leaves
use Rattle.component.specs.Places.{leaf_object, one_of_null}
use Rattle.shapes.specs.declared.annotations.Annotations.{Annotations}
use Rattle.shapes.specs.declared.tagging.Tagging.TheVariants.{External, Internal}
use Rattle.shapes.specs.Declarations.{MemberOf, FlattenedOf, FlattenedMapOf, BesideOf, named_fields, unannotated}
use Rattle.terms.specs.Terms.{object_of, tag_alone, form_term, internal_term, numbers_term}

abbrev x_member : MemberOf
x_member = record { name = codes "x"; required = true; annotations = unannotated; of = leaf U8 }

-- A at place 0, flattened
abbrev flat : FlattenedOf
flat = record { name = codes "a"; annotations = unannotated; of = named 0 no_types }

-- what is said of the map: `/** Rest. */ #[deprecated]`
abbrev rest : Annotations
rest = record { deprecated = true; description = Some (codes "Rest.") }

abbrev said : AnnotationKeywords
said = annotated true (Some (codes "Rest."))

abbrev a_map : Open → FlattenedMapOf
a_map value = record { name = codes "rest"; annotations = rest; key = leaf StringLeaf; value = value }

abbrev beside : Bool → List FlattenedOf → Option FlattenedMapOf → BesideOf
beside denies fs m = record { denies = denies; flattened = fs; map = m }

abbrev an_u8 : SchemaOf LeafOf
an_u8 = leaf_object false no_annotations U8

abbrev a_reference : AnnotationKeywords → SchemaOf LeafOf
a_reference keywords = tree.leaf (leaves.named (named 0 no_types) false keywords)

abbrev own : PartOf LeafOf → SchemaOf LeafOf
own others = object_of no_annotations others (codes "x" ∷ []) (property (codes "x") an_u8 no_properties)

-- the own object stands behind what is flattened, where it has a property; an allOf of one item is written
beside_members : form_term unannotated (named_fields (beside false (flat ∷ []) None) (x_member ∷ [])) ≡ all_of no_annotations (schema (a_reference no_annotations) (schema (own no_part) no_schemas))
beside_members = refl

without_members : form_term unannotated (named_fields (beside false (flat ∷ []) None) []) ≡ all_of no_annotations (schema (a_reference no_annotations) no_schemas)
without_members = refl

-- denial beside what is flattened changes nothing, and stands in place of a map
denied_beside : form_term unannotated (named_fields (beside true (flat ∷ []) None) (x_member ∷ [])) ≡ form_term unannotated (named_fields (beside false (flat ∷ []) None) (x_member ∷ []))
denied_beside = refl

denied_map : form_term unannotated (named_fields (beside true [] (Some (a_map (leaf U8)))) (x_member ∷ [])) ≡ own (truth false)
denied_map = refl

-- what is said of a map stands on its values: on a oneOf all of it, on a reference the description, on an argument nothing
map_of_leaves : form_term unannotated (named_fields (beside false [] (Some (a_map (leaf U8)))) (x_member ∷ [])) ≡ own (part (leaf_object false said U8))
map_of_leaves = refl

map_of_references : form_term unannotated (named_fields (beside false [] (Some (a_map (named 0 no_types)))) (x_member ∷ [])) ≡ own (part (a_reference (described (Some (codes "Rest.")))))
map_of_references = refl

map_of_options : form_term unannotated (named_fields (beside false [] (Some (a_map (option (named 0 no_types))))) (x_member ∷ [])) ≡ own (part (one_of_null said (a_reference no_annotations)))
map_of_options = refl

map_of_arguments : form_term unannotated (named_fields (beside false [] (Some (a_map (option (param 0))))) (x_member ∷ [])) ≡ own (part (one_of_null no_annotations (tree.leaf (leaves.param 0))))
map_of_arguments = refl

-- a map beside what is flattened stands in an object of its own, without a property too
map_beside : form_term unannotated (named_fields (beside false (flat ∷ []) (Some (a_map (leaf U8)))) [])
    ≡ all_of no_annotations (schema (a_reference no_annotations) (schema (object_of no_annotations (part (leaf_object false said U8)) [] no_properties) no_schemas))
map_beside = refl

-- the tag stands behind the own object, with what is said of the variant
tagged_beside : internal_term rest (codes "t") (codes "V") (named_fields (beside false (flat ∷ []) None) (x_member ∷ []))
    ≡ all_of said (schema (a_reference no_annotations) (schema (own no_part) (schema (tag_alone said (codes "t") (codes "V")) no_schemas)))
tagged_beside = refl

-- numbers, alone and as a tag
abbrev numbered : ℤ → SchemaOf LeafOf
numbered n = object (record (word_facts (One word.Integer) no_annotations) { enum_values = Some (number n ∷ []) }) no_properties no_part no_part

numbers_alone : numbers_term unannotated External (pos 7 ∷ []) ≡ numbered (pos 7)
numbers_alone = refl

numbers_tagged : numbers_term unannotated (Internal (codes "t")) (pos 7 ∷ []) ≡ one_of no_annotations (schema (object_of no_annotations no_part (codes "t" ∷ []) (property (codes "t") (numbered (pos 7)) no_properties)) no_schemas)
numbers_tagged = refl
