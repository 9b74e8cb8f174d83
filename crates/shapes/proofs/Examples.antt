-- Small sources, computed: null, what is required, the types of places, and an enum with a tag.
use Rattle.std.proofs.Common.{ℕ, List, [], ◌∷◌, Bool, true, false, codes, ◌≡◌, refl}
use Rattle.acceptance.specs.Json.{Json, null, text, boolean, map, no_members, member}
use Rattle.leaves.specs.declared.leaf.Leaf.TheVariants.{I32, Bool as BoolLeaf}
use Rattle.open_types.specs.declared.open_type.ListHead.TheVariants.{Vec}
use Rattle.open_types.specs.Open.{Open, Opens, leaf, items, option, param, named, no_types, more_types}
use Rattle.shapes.specs.declared.tagging.Tagging.TheVariants.{Internal}
use Rattle.shapes.specs.Declarations.{MemberOf, alone, named_fields, unnamed_fields, no_fields, fields, variants, DeclarationOf, parameters_in, unannotated}
use Rattle.shapes.specs.Instances.{places_at}
use Rattle.shapes.specs.InstanceNames.{instance_name}
use Rattle.shapes.specs.InstanceShape.{shape}

abbrev pub a_member : List ℕ → Bool → Open → MemberOf
a_member name required t = record { name = name; required = required; annotations = unannotated; of = t }

abbrev pub a_struct : List ℕ → ℕ → List MemberOf → DeclarationOf
a_struct name parameters ms = record { name = name; parameters = parameters; annotations = unannotated; body = fields (named_fields (alone false) ms) }

abbrev pub one : Open → Opens
one t = more_types t no_types

abbrev pub at_i32 : Open
at_i32 = named 0 (one (leaf I32))

abbrev pub at_option : Open
at_option = named 0 (one (option (leaf I32)))

abbrev pub empty : Json
empty = map no_members

abbrev pub with_v : Json → Json
with_v x = map (member (codes "v") x no_members)

-- struct N<T> { v: Option<T> }: the member may be missing, or null
abbrev pub n_source : List DeclarationOf
n_source = a_struct (codes "N") 1 (a_member (codes "v") false (option (param 0)) ∷ []) ∷ []

n_is : (instance_name n_source at_option ≡ codes "N_Option_i32") × (parameters_in n_source 0 ≡ 1) × (places_at n_source at_i32 ≡ option (leaf I32) ∷ [])
n_is = (refl, refl, refl)

n_shape : (shape n_source 1 at_i32 empty ≡ true) × (shape n_source 1 at_i32 (with_v null) ≡ true) × (shape n_source 1 at_i32 (with_v (text [])) ≡ false)
n_shape = (refl, refl, refl)

-- struct S<T> { v: T }: at Option<i32> the member may be null, and must be there
abbrev pub s_source : List DeclarationOf
s_source = a_struct (codes "S") 1 (a_member (codes "v") true (param 0) ∷ []) ∷ []

s_shape : (shape s_source 1 at_option (with_v null) ≡ true) × (shape s_source 1 at_option empty ≡ false)
s_shape = (refl, refl)

-- struct M<A, B> { a: B, b: Vec<A> } at bool and i32
abbrev m_source : List DeclarationOf
m_source = a_struct (codes "M") 2 (a_member (codes "a") true (param 1) ∷ a_member (codes "b") true (items Vec (param 0)) ∷ []) ∷ []

m_places : places_at m_source (named 0 (more_types (leaf BoolLeaf) (one (leaf I32)))) ≡ leaf I32 ∷ items Vec (leaf BoolLeaf) ∷ []
m_places = refl

-- #[serde(tag = "t")] enum E<T> { A(T), C }  struct U { x: bool }: at U the content stands beside the tag
abbrev pub tagged : List DeclarationOf
tagged =
    record {
      name = codes "E";
      parameters = 1;
      annotations = unannotated;
      body = variants (Internal (codes "t")) (record { name = codes "A"; annotations = unannotated; form = unnamed_fields (param 0 ∷ []) } ∷ record { name = codes "C"; annotations = unannotated; form = no_fields } ∷ []);
    }
    ∷ a_struct (codes "U") 0 (a_member (codes "x") true (leaf BoolLeaf) ∷ []) ∷ []

abbrev pub told : List ℕ → Json
told name = map (member (codes "t") (text name) (member (codes "x") (boolean true) no_members))

abbrev pub tag_only : List ℕ → Json
tag_only name = map (member (codes "t") (text name) no_members)

abbrev pub e_u : Open
e_u = named 0 (one (named 1 no_types))

e_shape : (shape tagged 2 e_u (told (codes "A")) ≡ true) × (shape tagged 2 e_u (tag_only (codes "A")) ≡ false) × (shape tagged 2 e_u (tag_only (codes "C")) ≡ true)
e_shape = (refl, refl, refl)
