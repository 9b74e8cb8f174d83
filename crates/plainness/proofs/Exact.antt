-- A body is plain exactly if nothing is in the way.
use Rattle.std.proofs.Common.{◌≡◌, ◌≢◌, ◌↔◌, ◌&&◌, List, [], ◌∷◌, Bool, true, false, cond, Option, Some, None, IsTrue, refl}
use Rattle.std.specs.Option.{option_or}
use Rattle.leaves.specs.Leaves.{kind_of}
use Rattle.leaves.specs.declared.leaf.LeafKind.{LeafKind}
use Rattle.leaves.specs.declared.leaf.LeafKind.TheVariants as kinds
use Rattle.open_types.specs.Open.{Open, Opens, leaf, any_value, free_object, tuple, items, set, map_of, option, through, named, no_types, more_types}
use Rattle.shapes.specs.Declarations.{FlattenedOf, FlattenedMapOf, FormOf, named_fields, unnamed_fields, no_fields, VariantOf, BodyOf, fields, units, numbers, variants, DeclarationOf, declaration_at, member_types}
use Rattle.shapes.specs.Plain.{IsNames, IsKey, IsPlainType, ArePlainTypes, AreAllPlain, IsOpen, IsOpenStruct, IsContent, IsTagged, IsOpenVariant, AreOpenVariants, IsOpenMap, CanBeFlattened, IsText, AreFlattened, IsPlainBeside, IsPlainForm, AreContent, CanBeTagged, IsPlainVariant, ArePlainVariants, KeepsVariant}
use Rattle.shapes.specs.declared.tagging.Tagging.{Tagging}
use Rattle.shapes.specs.declared.tagging.Tagging.TheVariants.{External, Internal, Adjacent, Untagged}
use Rattle.plainness.specs.declared.unplain.Misfit.TheVariants.{NoOpenMap, NoTexts, NotAlone, Denied}
use Rattle.plainness.specs.declared.unplain.Obstacle.{Obstacle}
use Rattle.plainness.specs.declared.unplain.Obstacle.TheVariants as obstacles
use Rattle.plainness.specs.Laws.{ObstaclesAreExact}
use Rattle.plainness.specs.Obstacles.{is_names, is_text, is_key, leaf_obstacle, key_obstacle, type_obstacle, types_obstacle, all_obstacle, is_any_text, field_obstacle, flattened_obstacle, beside_obstacle, form_obstacle, is_open, is_open_struct, is_content, is_tagged, is_open_variant, are_open_variants, is_open_map, can_be_flattened, are_content, content_obstacle, variant_obstacle, variants_obstacle, kept_obstacle}

-- ---- nothing, something, two and a test

abbrev IsClear : Option Obstacle → Type 0
IsClear o = o ≡ None

nothing : IsClear None ↔ Unit {0}
nothing = (λ e. tt, λ u. refl)

something : (x : Obstacle) → IsClear (Some x) ↔ ⊥
something x = (λ e. cc, λ h. absurd h)

both_clear : {P Q : Type 0} (o p : Option Obstacle) → IsClear o ↔ P → IsClear p ↔ Q → IsClear (option_or o p) ↔ (P × Q)
both_clear None p f g = (λ e. (f.0 refl, g.0 e), λ h. g.1 h.1)
both_clear (Some x) p f g = (λ e. absurd ((something x).0 e), λ h. absurd ((something x).0 (f.1 h.0)))

unless : {P : Type 0} (b : Bool) (x : Obstacle) → IsTrue b ↔ P → IsClear (cond b None (Some x)) ↔ P
unless true x f = (λ e. f.0 refl, λ h. refl)
unless false x f = (λ e. absurd ((something x).0 e), λ h. cc (f.1 h))

yes : IsTrue true ↔ Unit {0}
yes = (λ e. tt, λ u. refl)

no : IsTrue false ↔ ⊥
no = (λ e. cc, λ h. absurd h)

-- ---- keys

text_exact : (k : LeafKind) → IsTrue (is_text k) ↔ (k ≡ kinds.Text)
text_exact kinds.Text = (λ e. refl, λ e. refl)
text_exact _ = (λ e. cc, λ e. cc)

names_exact : (body : BodyOf) → IsTrue (is_names body) ↔ IsNames body
names_exact (units External names) = yes
names_exact _ = no

key_exact : (ss : List DeclarationOf) (t : Open) → IsTrue (is_key ss t) ↔ IsKey ss t
key_exact ss (leaf x) = text_exact (kind_of x)
key_exact ss (through h t) = key_exact ss t
key_exact ss (named d ts) = names_exact (declaration_at ss d).body
key_exact ss _ = no

-- ---- types

float_exact : (k : LeafKind) → IsClear (leaf_obstacle k) ↔ (k ≢ kinds.Float)
float_exact kinds.Float = (λ e. cc, λ n. absurd (n refl))
float_exact _ = (λ e f. cc, λ n. refl)

-- two of which the second is two are three
of_three : {A P Q R : Type 0} → A ↔ (P × (Q × R)) → A ↔ (P × Q × R)
of_three f = (λ a. let g = f.0 a in (g.0, g.1.0, g.1.1), λ h. f.1 (h.0, (h.1, h.2)))

mutual
  type_exact : (ss : List DeclarationOf) (t : Open) → IsClear (type_obstacle ss t) ↔ IsPlainType ss t
  type_exact ss (leaf x) = float_exact (kind_of x)
  type_exact ss any_value = nothing
  type_exact ss free_object = nothing
  type_exact ss (tuple ts) = types_exact ss ts
  type_exact ss (items h t) = type_exact ss t
  type_exact ss (set h t) = type_exact ss t
  type_exact ss (map_of h k t) = of_three (both_clear (key_obstacle (is_key ss k)) _ (unless (is_key ss k) obstacles.MapKey (key_exact ss k)) (both_clear (type_obstacle ss k) (type_obstacle ss t) (type_exact ss k) (type_exact ss t)))
  type_exact ss (option t) = type_exact ss t
  type_exact ss (through h t) = type_exact ss t
  type_exact ss (named d ts) = types_exact ss ts
  type_exact ss _ = something obstacles.Unit

  types_exact : (ss : List DeclarationOf) (ts : Opens) → IsClear (types_obstacle ss ts) ↔ ArePlainTypes ss ts
  types_exact ss no_types = nothing
  types_exact ss (more_types t ts) = both_clear (type_obstacle ss t) (types_obstacle ss ts) (type_exact ss t) (types_exact ss ts)

all_exact : (ss : List DeclarationOf) (ts : List Open) → IsClear (all_obstacle ss ts) ↔ AreAllPlain ss ts
all_exact ss [] = nothing
all_exact ss (t ∷ ts) = both_clear (type_obstacle ss t) (all_obstacle ss ts) (type_exact ss t) (all_exact ss ts)

turned : {A P Q : Type 0} → A ↔ (P × Q) → A ↔ (Q × P)
turned f = (λ a. let g = f.0 a in (g.1, g.0), λ h. f.1 (h.1, h.0))

-- ---- bodies

opens_exact : (denies : Bool) (m : Option FlattenedMapOf) → IsTrue (is_open denies m) ↔ IsOpen denies m
opens_exact false None = yes
opens_exact false (Some m) = no
opens_exact true m = no

open_exact : (body : BodyOf) → IsTrue (is_open_struct body) ↔ IsOpenStruct body
open_exact (fields (named_fields b ms)) = opens_exact b.denies b.map
open_exact _ = no

content_exact : (ss : List DeclarationOf) (t : Open) → IsTrue (is_content ss t) ↔ IsContent ss t
content_exact ss (through h t) = content_exact ss t
content_exact ss (named d ts) = open_exact (declaration_at ss d).body
content_exact ss _ = no

both_true : {P Q : Type 0} (a b : Bool) → IsTrue a ↔ P → IsTrue b ↔ Q → IsTrue (a && b) ↔ (P × Q)
both_true true b f g = (λ h. (f.0 refl, g.0 h), λ h. g.1 h.1)
both_true false b f g = (λ h. cc, λ h. f.1 h.0)

tagged_exact : (tagging : Tagging) → IsTrue (is_tagged tagging) ↔ IsTagged tagging
tagged_exact (Internal tag) = yes
tagged_exact (Adjacent tag content) = yes
tagged_exact External = no
tagged_exact Untagged = no

open_variant_exact : (tagging : Tagging) (form : FormOf) → IsTrue (is_open_variant tagging form) ↔ IsOpenVariant tagging form
open_variant_exact (Internal tag) (named_fields b ms) = opens_exact b.denies b.map
open_variant_exact _ _ = yes

open_variants_exact : (tagging : Tagging) (xs : List VariantOf) → IsTrue (are_open_variants tagging xs) ↔ AreOpenVariants tagging xs
open_variants_exact tagging [] = yes
open_variants_exact tagging (x ∷ xs) = both_true (is_open_variant tagging x.form) (are_open_variants tagging xs) (open_variant_exact tagging x.form) (open_variants_exact tagging xs)

open_map_exact : (body : BodyOf) → IsTrue (is_open_map body) ↔ IsOpenMap body
open_map_exact (fields form) = open_exact (fields form)
open_map_exact (units tagging names) = tagged_exact tagging
open_map_exact (numbers tagging ns) = tagged_exact tagging
open_map_exact (variants tagging xs) = both_true (is_tagged tagging) (are_open_variants tagging xs) (tagged_exact tagging) (open_variants_exact tagging xs)

can_be_flattened_exact : (ss : List DeclarationOf) (t : Open) → IsTrue (can_be_flattened ss t) ↔ CanBeFlattened ss t
can_be_flattened_exact ss (through h t) = can_be_flattened_exact ss t
can_be_flattened_exact ss (named d ts) = open_map_exact (declaration_at ss d).body
can_be_flattened_exact ss _ = no

any_text_exact : (t : Open) → IsTrue (is_any_text t) ↔ IsText t
any_text_exact (leaf x) = text_exact (kind_of x)
any_text_exact (through h t) = any_text_exact t
any_text_exact _ = no

field_exact : (ss : List DeclarationOf) (f : FlattenedOf) → IsClear (field_obstacle ss f) ↔ (CanBeFlattened ss f.of × IsPlainType ss f.of)
field_exact ss f =
    both_clear (cond (can_be_flattened ss f.of) None _) (type_obstacle ss f.of) (unless (can_be_flattened ss f.of) (obstacles.Flattened f.name NoOpenMap) (can_be_flattened_exact ss f.of)) (type_exact ss f.of)

flattened_exact : (ss : List DeclarationOf) (fs : List FlattenedOf) → IsClear (flattened_obstacle ss fs) ↔ AreFlattened ss fs
flattened_exact ss [] = nothing
flattened_exact ss (f ∷ fs) = both_clear (field_obstacle ss f) (flattened_obstacle ss fs) (field_exact ss f) (flattened_exact ss fs)

beside_exact : (ss : List DeclarationOf) (denies : Bool) (fs : List FlattenedOf) (m : Option FlattenedMapOf) → IsClear (beside_obstacle ss denies fs m) ↔ IsPlainBeside ss denies fs m
beside_exact ss denies [] None = nothing
beside_exact ss false [] (Some m) =
    both_clear (cond (is_any_text m.key) None _) (type_obstacle ss m.value) (unless (is_any_text m.key) (obstacles.Flattened m.name NoTexts) (any_text_exact m.key)) (type_exact ss m.value)
beside_exact ss false (f ∷ fs) None = flattened_exact ss (f ∷ fs)
beside_exact ss true [] (Some m) = something (obstacles.Flattened m.name Denied)
beside_exact ss false (f ∷ fs) (Some m) = something (obstacles.Flattened m.name NotAlone)
beside_exact ss true (f ∷ fs) None = something (obstacles.Flattened f.name Denied)
beside_exact ss true (f ∷ fs) (Some m) = something (obstacles.Flattened f.name Denied)

form_exact : (ss : List DeclarationOf) (form : FormOf) → IsClear (form_obstacle ss form) ↔ IsPlainForm ss form
form_exact ss (named_fields b ms) = turned (both_clear (beside_obstacle ss b.denies b.flattened b.map) (all_obstacle ss (member_types ms)) (beside_exact ss b.denies b.flattened b.map) (all_exact ss (member_types ms)))
form_exact ss (unnamed_fields ts) = all_exact ss ts
form_exact ss no_fields = something obstacles.Unit

contents_exact : (ss : List DeclarationOf) (ts : List Open) → IsTrue (are_content ss ts) ↔ AreContent ss ts
contents_exact ss (t ∷ []) = content_exact ss t
contents_exact ss _ = no

tag_exact : (ss : List DeclarationOf) (tagging : Tagging) (ts : List Open) → IsClear (content_obstacle ss tagging ts) ↔ CanBeTagged ss tagging (unnamed_fields ts)
tag_exact ss (Internal tag) ts = unless (are_content ss ts) obstacles.TaggedNewtype (contents_exact ss ts)
tag_exact ss _ ts = nothing

variant_exact : (ss : List DeclarationOf) (tagging : Tagging) (form : FormOf) → IsClear (variant_obstacle ss tagging form) ↔ IsPlainVariant ss tagging form
variant_exact ss tagging no_fields = nothing
variant_exact ss tagging (named_fields b ms) = form_exact ss (named_fields b ms)
variant_exact ss tagging (unnamed_fields ts) = both_clear (form_obstacle ss (unnamed_fields ts)) (content_obstacle ss tagging ts) (form_exact ss (unnamed_fields ts)) (tag_exact ss tagging ts)

variants_exact : (ss : List DeclarationOf) (tagging : Tagging) (xs : List VariantOf) → IsClear (variants_obstacle ss tagging xs) ↔ ArePlainVariants ss tagging xs
variants_exact ss tagging [] = nothing
variants_exact ss tagging (x ∷ xs) = both_clear (variant_obstacle ss tagging x.form) (variants_obstacle ss tagging xs) (variant_exact ss tagging x.form) (variants_exact ss tagging xs)

kept_exact : {A : Type 0} (tagging : Tagging) (xs : List A) → IsClear (kept_obstacle tagging xs) ↔ KeepsVariant tagging xs
kept_exact Untagged [] = something obstacles.NoVariant
kept_exact _ _ = nothing

pub obstacles_exact : ObstaclesAreExact
obstacles_exact ss (fields form) = form_exact ss form
obstacles_exact ss (units tagging names) = kept_exact tagging names
obstacles_exact ss (numbers tagging ns) = kept_exact tagging ns
obstacles_exact ss (variants tagging xs) = both_clear (kept_obstacle tagging xs) (variants_obstacle ss tagging xs) (kept_exact tagging xs) (variants_exact ss tagging xs)
