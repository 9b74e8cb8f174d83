-- The schema of a place where all is inline, from that where names are references.
use Rattle.std.proofs.Common.{ℕ, Bool, true, false, ◌≡◌, refl, ap}
use Rattle.schema_trees.specs.Annotations.{no_annotations}
use Rattle.schema_trees.specs.Schema.{SchemaOf, bind, bind_schemas}
use Rattle.schema_trees.specs.Schema as tree
use Rattle.open_types.specs.Open.{Open, Opens, leaf, any_value, free_object, unit, tuple, items, set, map_of, option, through, no_types, more_types}
use Rattle.open_types.specs.Open as types
use Rattle.component.specs.Leaves.{LeafOf, param, named}
use Rattle.component.specs.Places.{list_of, tuple_of, map_object, PlaceOf, inside, declared, argument, place, inline_places}

-- the leaf as it is where its place is inline
abbrev pub made_inline : LeafOf → SchemaOf LeafOf
made_inline (param i) = tree.leaf (param i)
made_inline (named t inline annotations) = tree.leaf (named t true no_annotations)

-- a place of which nothing is said
abbrev bare : Bool → Bool → PlaceOf
bare nullable inline = record (inside inline) { nullable = nullable }

argument-inline : (nullable inline : Bool) (i : ℕ) → bind made_inline (argument (bare nullable inline) i) ≡ argument (bare nullable true) i
argument-inline false false i = refl
argument-inline false true i = refl
argument-inline true false i = refl
argument-inline true true i = refl

declared-inline : (nullable inline : Bool) (t : Open) → bind made_inline (declared (bare nullable inline) t) ≡ declared (bare nullable true) t
declared-inline false false t = refl
declared-inline false true t = refl
declared-inline true false t = refl
declared-inline true true t = refl

mutual
  pub place-inline : (nullable inline : Bool) (t : Open) → bind made_inline (place (bare nullable inline) t) ≡ place (bare nullable true) t
  place-inline nullable inline (leaf x) = refl
  place-inline nullable inline any_value = refl
  place-inline nullable inline free_object = refl
  place-inline nullable inline unit = refl
  place-inline nullable inline (tuple ts) = ap (tuple_of nullable no_annotations) (places-inline ts)
  place-inline nullable inline (items x t) = ap (list_of false nullable no_annotations) (place-inline false inline t)
  place-inline nullable inline (set x t) = ap (list_of true nullable no_annotations) (place-inline false inline t)
  place-inline nullable inline (map_of x k t) = λ i. map_object nullable no_annotations (place-inline false true k i) (place-inline false inline t i)
  place-inline nullable inline (option t) = place-inline true inline t
  place-inline nullable inline (through x t) = place-inline nullable inline t
  place-inline nullable inline (types.param j) = argument-inline nullable inline j
  place-inline nullable inline (types.named d ts) = declared-inline nullable inline (types.named d ts)

  places-inline : (ts : Opens) → bind_schemas made_inline (inline_places ts) ≡ inline_places ts
  places-inline no_types = refl
  places-inline (more_types t ts) = λ i. tree.schema (place-inline false true t i) (places-inline ts i)
