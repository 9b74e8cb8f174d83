-- Small sources, computed: null, what is required, what is alike, an enum with a tag, and what stands at leaves.
use Rattle.std.proofs.Common.{List, [], ◌∷◌, Bool, true, false, codes, ◌≡◌, refl}
use Rattle.acceptance.specs.Json.{Json, null}
use Rattle.leaves.specs.declared.leaf.Leaf.TheVariants.{I32, Bool as BoolLeaf}
use Rattle.schema_trees.specs.Annotations.{no_annotations}
use Rattle.schema_trees.specs.Schema.{SchemaOf, no_schemas, schema, no_properties, property, no_part, truth, part}
use Rattle.schema_trees.specs.Schema as tree
use Rattle.schema_core.specs.Meaning.{tree_accepts}
use Rattle.open_types.specs.Open.{Open, leaf, param, named, no_types}
use Rattle.component.specs.Leaves.{LeafOf}
use Rattle.component.specs.Leaves as leaves
use Rattle.component.specs.Places.{null_alone, leaf_object, one_of_null}
use Rattle.shapes.specs.Declarations.{unnamed_fields, fields, DeclarationOf, unannotated}
use Rattle.shapes.specs.Instances.{declared_by}
use Rattle.shapes.specs.InstanceShape.{shape}
use Rattle.shapes.proofs.Laws.{one, at_i32, at_option, empty, with_v, n_source, s_source, tagged, told, tag_only, e_u}
use Rattle.terms.specs.Terms.{object_of, list_of_length, term}
use Rattle.terms.specs.InstanceTerms.{with_arguments, instance_term}
use Rattle.terms.specs.Meaning.{leaf_shape}

abbrev an_i32 : SchemaOf LeafOf
an_i32 = leaf_object false no_annotations I32

-- struct N<T> { v: Option<T> }: at Option<i32> both schemas accept null
n_term : instance_term n_source at_option ≡ object_of no_annotations no_part [] (property (codes "v") (one_of_null no_annotations (leaf_object true no_annotations I32)) no_properties)
n_term = refl

null_twice : (says : LeafOf → Json → Bool) → (tree_accepts says (leaf_object true no_annotations I32) null ≡ true) × (tree_accepts says null_alone null ≡ true)
null_twice says = (refl, refl)

-- struct S<T> { v: T }: at Option<i32> the member may be null, and must be there
s_accepts : (says : LeafOf → Json → Bool) → (tree_accepts says (instance_term s_source at_option) (with_v null) ≡ true) × (tree_accepts says (instance_term s_source at_option) empty ≡ false)
s_accepts says = (refl, refl)

-- struct W<T>(T, i32); struct V<T>(T, T); at i32: whether fields are alike is told over the parameters
abbrev pairs : List DeclarationOf
pairs =
    record { name = codes "W"; parameters = 1; annotations = unannotated; body = fields (unnamed_fields (param 0 ∷ leaf I32 ∷ [])) }
    ∷ record { name = codes "V"; parameters = 1; annotations = unannotated; body = fields (unnamed_fields (param 0 ∷ param 0 ∷ [])) } ∷ []

mixed : instance_term pairs at_i32 ≡ list_of_length 2 no_annotations (schema an_i32 (schema an_i32 no_schemas)) (truth false)
mixed = refl

alike : instance_term pairs (named 1 (one (leaf I32))) ≡ list_of_length 2 no_annotations no_schemas (part an_i32)
alike = refl

-- the enum with a tag: at U the content stands beside the tag
e_accepts : (tree_accepts (leaf_shape (shape tagged 1)) (instance_term tagged e_u) (told (codes "A")) ≡ true) × (tree_accepts (leaf_shape (shape tagged 1)) (instance_term tagged e_u) (tag_only (codes "A")) ≡ false)
e_accepts = (refl, refl)

root_term : instance_term tagged (named 1 no_types) ≡ term (declared_by tagged (named 1 no_types))
root_term = refl

-- P<T> in a term, at bool
abbrev p_bool : Open
p_bool = named 0 (one (leaf BoolLeaf))

put_in : with_arguments (one (leaf BoolLeaf)) (leaves.named (named 0 (one (param 0))) false no_annotations) ≡ tree.leaf (leaves.named p_bool false no_annotations)
put_in = refl

at_leaves : (instance : Open → Json → Bool) (v : Json) → (leaf_shape instance (leaves.named p_bool true no_annotations) v ≡ instance p_bool v) × (leaf_shape instance (leaves.param 0) v ≡ false)
at_leaves instance v = (refl, refl)
