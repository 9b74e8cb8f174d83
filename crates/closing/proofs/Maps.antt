-- What has the shape of a struct beside whose members others may stand, or of an enum with a tag, is a map.
use Rattle.std.proofs.Common.{ℕ, zero, suc, ℤ, List, [], ◌∷◌, Bool, true, false, ◌&&◌, ◌||◌, map as map_over, IsTrue, refl}
use Rattle.std.specs.List.{list_all, list_any}
use Rattle.acceptance.specs.Json.{Json, null, boolean, number, text, list, map, look, there}
use Rattle.open_types.specs.Open.{Open, Opens}
use Rattle.shapes.specs.declared.tagging.Tagging.{Tagging}
use Rattle.shapes.specs.declared.tagging.Tagging.TheVariants.{External, Internal, Adjacent, Untagged}
use Rattle.shapes.specs.Declarations.{FormOf, named_fields, unnamed_fields, no_fields, BodyOf, fields, units, numbers, variants, DeclarationOf, declaration_at}
use Rattle.shapes.specs.Instances.{flattened_over, variant_over, body_over}
use Rattle.shapes.specs.Shape.{is_map, flattened_fits, unnamed_shape, is_the, is_that, has_member, unit_shape, number_shape, internal_shape, fields_shape, variant_shape, body_shape}
use Rattle.shapes.specs.InstanceShape.{shape}
use Rattle.shapes.specs.Plain.{IsTagged, IsOpenMap}
use Rattle.terms.specs.Meaning.{HoldMaps}

-- ---- maps

abbrev IsMap : Json → Type 0
IsMap v = IsTrue (is_map v (λ es. true))

map-only : (p : List (List ℕ × Json) → Bool) (v : Json) → IsTrue (is_map v p) → IsMap v
map-only p (map es) h = refl
map-only p null h = h
map-only p (boolean x) h = h
map-only p (number n) h = h
map-only p (text t) h = h
map-only p (list xs) h = h

second : (a b : Bool) → IsTrue (a && b) → IsTrue b
second true b h = h
second false b h = cc

-- where each that passes says something that is told by a truth value, some that pass say it
some-say : {A : Type 0} (p : A → Bool) (b : Bool) → ((x : A) → IsTrue (p x) → IsTrue b) → (xs : List A) → IsTrue (list_any p xs) → IsTrue b
some-say p b says [] h = cc
some-say p b says (x ∷ xs) h = by (p x) (says x) (some-say p b says xs) h
  where
    by : (c : Bool) → (IsTrue c → IsTrue b) → (IsTrue (list_any p xs) → IsTrue b) → IsTrue (c || list_any p xs) → IsTrue b
    by true here others g = here refl
    by false here others g = others g

-- ---- variants with a tag

unit-map : (tagging : Tagging) → IsTagged tagging → (v : Json) (name : List ℕ) → IsTrue (unit_shape tagging name v) → IsMap v
unit-map (Internal tag) o v name h = map-only (λ es. there (look tag es) (is_the name)) v h
unit-map (Adjacent tag content) o v name h = map-only (λ es. there (look tag es) (is_the name)) v h
unit-map External o v name h = absurd o
unit-map Untagged o v name h = absurd o

number-map : (tagging : Tagging) → IsTagged tagging → (v : Json) (n : ℤ) → IsTrue (number_shape tagging n v) → IsMap v
number-map (Internal tag) o v n h = map-only (λ es. there (look tag es) (is_that n)) v h
number-map (Adjacent tag content) o v n h = map-only (λ es. there (look tag es) (is_that n)) v h
number-map External o v n h = absurd o
number-map Untagged o v n h = absurd o

internal-map : (instance : Open → Json → Bool) (tag name : List ℕ) (form : FormOf) (v : Json) → IsTrue (internal_shape instance tag name form v) → IsMap v
internal-map instance tag name (named_fields b ms) v h = map-only _ v (second (list_all (flattened_fits instance v) b.flattened) _ h)
internal-map instance tag name (unnamed_fields ts) v h = map-only (λ es. there (look tag es) (is_the name)) v (second (unnamed_shape instance ts v) (has_member tag (is_the name) v) h)
internal-map instance tag name no_fields v h = map-only (λ es. there (look tag es) (is_the name)) v h

variant-map : (instance : Open → Json → Bool) (tagging : Tagging) → IsTagged tagging → (name : List ℕ) (form : FormOf) (v : Json) → IsTrue (fields_shape instance tagging name form v) → IsMap v
variant-map instance tagging o name no_fields v h = unit-map tagging o v name h
variant-map instance (Internal tag) o name (named_fields b ms) v h = internal-map instance tag name (named_fields b ms) v h
variant-map instance (Internal tag) o name (unnamed_fields ts) v h = internal-map instance tag name (unnamed_fields ts) v h
variant-map instance (Adjacent tag content) o name (named_fields b ms) v h = map-only _ v h
variant-map instance (Adjacent tag content) o name (unnamed_fields ts) v h = map-only _ v h
variant-map instance External o name (named_fields b ms) v h = absurd o
variant-map instance External o name (unnamed_fields ts) v h = absurd o
variant-map instance Untagged o name (named_fields b ms) v h = absurd o
variant-map instance Untagged o name (unnamed_fields ts) v h = absurd o

-- ---- bodies

body-map : (instance : Open → Json → Bool) (args : Opens) (body : BodyOf) → IsOpenMap body → (v : Json) → IsTrue (body_shape instance (body_over args body) v) → IsMap v
body-map instance args (fields (named_fields b ms)) o v h = map-only _ v (second (list_all (flattened_fits instance v) (map_over (flattened_over args) b.flattened)) _ h)
body-map instance args (fields (unnamed_fields ts)) o v h = absurd o
body-map instance args (fields no_fields) o v h = absurd o
body-map instance args (units tagging ns) o v h = some-say (λ name. unit_shape tagging name v) (is_map v (λ es. true)) (unit-map tagging o v) ns h
body-map instance args (numbers tagging ns) o v h = some-say (λ n. number_shape tagging n v) (is_map v (λ es. true)) (number-map tagging o v) ns h
body-map instance args (variants tagging xs) o v h =
    some-say (variant_shape instance tagging v) (is_map v (λ es. true)) (λ x. variant-map instance tagging o.0 x.name x.form v) (map_over (variant_over args) xs) h

pub hold-maps : (ss : List DeclarationOf) (k : ℕ) → HoldMaps ss (shape ss k)
hold-maps ss zero d ts o v h = cc
hold-maps ss (suc k) d ts o v h = body-map (shape ss k) ts (declaration_at ss d).body o v h
