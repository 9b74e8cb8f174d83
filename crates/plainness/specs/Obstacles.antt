-- What in the body of an instance its schema cannot say whole, where something does: the first of it.
use Rattle.std.specs.Prelude.{◌≡◌, ◌&&◌, List, [], ◌∷◌, Bool, true, false, cond, Option, Some, None}
use Rattle.std.specs.List.{list_all}
use Rattle.std.specs.Option.{option_or}
use Rattle.leaves.specs.Leaves.{kind_of}
use Rattle.leaves.specs.declared.leaf.LeafKind.{LeafKind}
use Rattle.leaves.specs.declared.leaf.LeafKind.TheVariants as kinds
use Rattle.open_types.specs.Open.{Open, Opens, leaf, any_value, free_object, tuple, items, set, map_of, option, through, named, no_types, more_types}
use Rattle.shapes.specs.Declarations.{FlattenedOf, FlattenedMapOf, FormOf, named_fields, unnamed_fields, no_fields, VariantOf, BodyOf, fields, units, numbers, variants, DeclarationOf, declaration_at, member_types}
use Rattle.shapes.specs.declared.tagging.Tagging.{Tagging}
use Rattle.shapes.specs.declared.tagging.Tagging.TheVariants.{External, Internal, Adjacent, Untagged}
use Rattle.plainness.specs.declared.unplain.Misfit.TheVariants.{NoOpenMap, NoTexts, NotAlone, Denied}
use Rattle.plainness.specs.declared.unplain.Obstacle.{Obstacle}
use Rattle.plainness.specs.declared.unplain.Obstacle.TheVariants.{Float, MapKey, TaggedNewtype, Flattened, Unit, NoVariant}

-- ---- the first

-- what is in the way in the first of the items in which something is, by what is in the way in each
abbrev pub first_obstacle : {A : Type 0} → (A → Option Obstacle) → List A → Option Obstacle
first_obstacle o [] = None
first_obstacle o (x ∷ xs) = option_or (o x) (first_obstacle o xs)

-- what may be answered at an item is what is in the way in it
abbrev pub TellsObstacle : {A : Type 0} → (A → Option Obstacle → Type 0) → (A → Option Obstacle) → Type 0
TellsObstacle {A} answers o = (x : A) (found : Option Obstacle) → answers x found → found ≡ o x

-- ---- types

-- each value of the enum is the name of a variant
abbrev pub is_names : BodyOf → Bool
is_names (units External names) = true
is_names _ = false

abbrev pub is_text : LeafKind → Bool
is_text kinds.Text = true
is_text _ = false

-- what serde reads for a map's key is a text
abbrev pub is_key : List DeclarationOf → Open → Bool
is_key ss (leaf x) = is_text (kind_of x)
is_key ss (through h t) = is_key ss t
is_key ss (named d ts) = is_names (declaration_at ss d).body
is_key ss _ = false

abbrev pub leaf_obstacle : LeafKind → Option Obstacle
leaf_obstacle kinds.Float = Some Float
leaf_obstacle _ = None

abbrev pub key_obstacle : Bool → Option Obstacle
key_obstacle is_key = cond is_key None (Some MapKey)

-- a float, a key that is no text, or the unit
abbrev mutual
  pub type_obstacle : List DeclarationOf → Open → Option Obstacle
  type_obstacle ss (leaf x) = leaf_obstacle (kind_of x)
  type_obstacle ss any_value = None
  type_obstacle ss free_object = None
  type_obstacle ss (tuple ts) = types_obstacle ss ts
  type_obstacle ss (items h t) = type_obstacle ss t
  type_obstacle ss (set h t) = type_obstacle ss t
  type_obstacle ss (map_of h k t) = option_or (key_obstacle (is_key ss k)) (option_or (type_obstacle ss k) (type_obstacle ss t))
  type_obstacle ss (option t) = type_obstacle ss t
  type_obstacle ss (through h t) = type_obstacle ss t
  type_obstacle ss (named d ts) = types_obstacle ss ts
  type_obstacle ss _ = Some Unit

  pub types_obstacle : List DeclarationOf → Opens → Option Obstacle
  types_obstacle ss no_types = None
  types_obstacle ss (more_types t ts) = option_or (type_obstacle ss t) (types_obstacle ss ts)

abbrev pub all_obstacle : List DeclarationOf → List Open → Option Obstacle
all_obstacle ss ts = first_obstacle (type_obstacle ss) ts

-- ---- bodies

-- other members may stand beside its own: none are denied, and no map is flattened into it
abbrev pub is_open : Bool → Option FlattenedMapOf → Bool
is_open false None = true
is_open _ _ = false

-- a struct with named fields beside which others may stand
abbrev pub is_open_struct : BodyOf → Bool
is_open_struct (fields (named_fields b ms)) = is_open b.denies b.map
is_open_struct _ = false

-- such a struct, passed through perhaps: a tag may stand among its members
abbrev pub is_content : List DeclarationOf → Open → Bool
is_content ss (named d ts) = is_open_struct (declaration_at ss d).body
is_content ss (through h t) = is_content ss t
is_content ss _ = false

-- the variants have a tag
abbrev pub is_tagged : Tagging → Bool
is_tagged (Internal tag) = true
is_tagged (Adjacent tag content) = true
is_tagged _ = false

-- others may stand beside the tag and the members of the variant
abbrev pub is_open_variant : Tagging → FormOf → Bool
is_open_variant (Internal tag) (named_fields b ms) = is_open b.denies b.map
is_open_variant _ _ = true

abbrev pub are_open_variants : Tagging → List VariantOf → Bool
are_open_variants tagging xs = list_all (λ x. is_open_variant tagging x.form) xs

-- such a struct, or an enum with a tag whose variants are open
abbrev pub is_open_map : BodyOf → Bool
is_open_map (fields form) = is_open_struct (fields form)
is_open_map (units tagging names) = is_tagged tagging
is_open_map (numbers tagging ns) = is_tagged tagging
is_open_map (variants tagging xs) = is_tagged tagging && are_open_variants tagging xs

-- what is declared as such a map, passed through perhaps
abbrev pub can_be_flattened : List DeclarationOf → Open → Bool
can_be_flattened ss (named d ts) = is_open_map (declaration_at ss d).body
can_be_flattened ss (through h t) = can_be_flattened ss t
can_be_flattened ss _ = false

-- any texts, passed through perhaps
abbrev pub is_any_text : Open → Bool
is_any_text (leaf x) = is_text (kind_of x)
is_any_text (through h t) = is_any_text t
is_any_text _ = false

-- what is flattened is no such map, or has something in the way
abbrev pub field_obstacle : List DeclarationOf → FlattenedOf → Option Obstacle
field_obstacle ss f = option_or (cond (can_be_flattened ss f.of) None (Some (Flattened f.name NoOpenMap))) (type_obstacle ss f.of)

abbrev pub flattened_obstacle : List DeclarationOf → List FlattenedOf → Option Obstacle
flattened_obstacle ss fs = first_obstacle (field_obstacle ss) fs

-- the names of the map are no texts, or something is in the way in its values
abbrev pub map_obstacle : List DeclarationOf → FlattenedMapOf → Option Obstacle
map_obstacle ss m = option_or (cond (is_any_text m.key) None (Some (Flattened m.name NoTexts))) (type_obstacle ss m.value)

-- denial beside what is flattened, and a map beside something else that is, are in the way themselves
abbrev pub beside_obstacle : List DeclarationOf → Bool → List FlattenedOf → Option FlattenedMapOf → Option Obstacle
beside_obstacle ss denies [] None = None
beside_obstacle ss false [] (Some m) = map_obstacle ss m
beside_obstacle ss false (f ∷ fs) None = flattened_obstacle ss (f ∷ fs)
beside_obstacle ss false (f ∷ fs) (Some m) = Some (Flattened m.name NotAlone)
beside_obstacle ss true [] (Some m) = Some (Flattened m.name Denied)
beside_obstacle ss true (f ∷ fs) m = Some (Flattened f.name Denied)

abbrev pub form_obstacle : List DeclarationOf → FormOf → Option Obstacle
form_obstacle ss (named_fields b ms) = option_or (beside_obstacle ss b.denies b.flattened b.map) (all_obstacle ss (member_types ms))
form_obstacle ss (unnamed_fields ts) = all_obstacle ss ts
form_obstacle ss no_fields = Some Unit

abbrev pub are_content : List DeclarationOf → List Open → Bool
are_content ss (t ∷ []) = is_content ss t
are_content ss _ = false

abbrev pub content_obstacle : List DeclarationOf → Tagging → List Open → Option Obstacle
content_obstacle ss (Internal tag) ts = cond (are_content ss ts) None (Some TaggedNewtype)
content_obstacle ss _ ts = None

-- as of a struct, but a variant may have no fields, and its tag has to find a place
abbrev pub variant_obstacle : List DeclarationOf → Tagging → FormOf → Option Obstacle
variant_obstacle ss tagging no_fields = None
variant_obstacle ss tagging (named_fields b ms) = form_obstacle ss (named_fields b ms)
variant_obstacle ss tagging (unnamed_fields ts) = option_or (form_obstacle ss (unnamed_fields ts)) (content_obstacle ss tagging ts)

abbrev pub variants_obstacle : List DeclarationOf → Tagging → List VariantOf → Option Obstacle
variants_obstacle ss tagging xs = first_obstacle (λ x. variant_obstacle ss tagging x.form) xs

-- an untagged enum that keeps no variant
abbrev pub kept_obstacle : {A : Type 0} → Tagging → List A → Option Obstacle
kept_obstacle Untagged [] = Some NoVariant
kept_obstacle _ _ = None

abbrev pub body_obstacle : List DeclarationOf → BodyOf → Option Obstacle
body_obstacle ss (fields form) = form_obstacle ss form
body_obstacle ss (units tagging names) = kept_obstacle tagging names
body_obstacle ss (numbers tagging ns) = kept_obstacle tagging ns
body_obstacle ss (variants tagging xs) = option_or (kept_obstacle tagging xs) (variants_obstacle ss tagging xs)
