-- Declared types with arguments: what an argument holds decides what they stand for.
use Rattle.std.specs.Prelude.{ℕ, Bool, true, false, ◌||◌, ◌==◌, cond, Option, Some, None}
use Rattle.open_types.specs.Open.{Open, Opens}
use Rattle.open_types.specs.Open as types
use Rattle.open_types.specs.Instances.{count}
use Rattle.resolving.specs.Known.{Known}

-- the free object stands in the type, at any depth
abbrev mutual
  pub holds_free : Open → Bool
  holds_free types.free_object = true
  holds_free (types.tuple ts) = hold_free ts
  holds_free (types.items h t) = holds_free t
  holds_free (types.set h t) = holds_free t
  holds_free (types.map_of h k t) = holds_free k || holds_free t
  holds_free (types.option t) = holds_free t
  holds_free (types.through h t) = holds_free t
  holds_free (types.named d ts) = hold_free ts
  holds_free _ = false

  pub hold_free : Opens → Bool
  hold_free types.no_types = false
  hold_free (types.more_types t ts) = holds_free t || hold_free ts

-- A declared type with an argument that holds the free object is the free object.
abbrev pub declared : ℕ → Opens → Open
declared d ts = cond (hold_free ts) types.free_object (types.named d ts)

-- A declaration takes as many arguments as it has type parameters.
abbrev pub declared_with : Known → ℕ → Opens → Option Open
declared_with known d ts = cond (count ts == known.parameters_at d) (Some (declared d ts)) None
