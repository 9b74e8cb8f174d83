-- Lists of closed types, in which the number of a type is its place (The Rust Reference, "Types").
use Rattle.std.specs.Prelude.{◌≡◌, ◌<◌, ◌↔◌, ◌⊎◌, ◌-◌, ◌^◌, ℕ, List, [], ◌∷◌, ◌++◌, length, get_or, min, Option, Some, None}
use Rattle.open_types.specs.Open.{Open, Opens, unit, tuple, items, set, map_of, option, through, named, no_types, more_types, IsClosed}
use Rattle.open_types.specs.Instances.{StandsIn, StandsInOne}

-- the type of a number; past the end, the unit
abbrev pub type_at : List Open → ℕ → Open
type_at known n = get_or known n unit

-- the old list stands in front of the new one
abbrev pub IsFront : List Open → List Open → Type 0
IsFront old new = (more : List Open) × (new ≡ old ++ more)

-- the types of the numbers
abbrev pub types_at : List Open → List ℕ → Opens
types_at known [] = no_types
types_at known (n ∷ ns) = more_types (type_at known n) (types_at known ns)

-- each number is below the bound
abbrev pub AllBelow : ℕ → List ℕ → Type 0
AllBelow bound [] = Unit {0}
AllBelow bound (n ∷ ns) = (n < bound) × AllBelow bound ns

-- the type is one of the first so many of the list, which has as many
abbrev pub IsAmongFirst : List Open → ℕ → Open → Type 0
IsAmongFirst known bound t = (n : ℕ) × (n < bound) × (type_at known n ≡ t)

-- what a look-up of a type answers: its number, or that it is no type of the list
pub data IsFound (known : List Open) (t : Open) : Option ℕ → Type 0 where
  found : (n : ℕ) → n < length known → type_at known n ≡ t → IsFound known t (Some n)
  missing : ¬ IsAmongFirst known (length known) t → IsFound known t None

-- the place of the declaration, where the type is an instance
abbrev pub declaration_of : Open → Option ℕ
declaration_of (named d ts) = Some d
declaration_of _ = None

-- a size, or the greatest number that 64 bits hold where the size is greater
abbrev pub in_word : ℕ → ℕ
in_word size = min size (2 ^ 64 - 1)

-- ---- parts

-- what makes up a type: of a tuple its first item and the tuple of the others, of an instance the tuple of its arguments
abbrev pub parts_of : Open → List Open
parts_of (tuple (more_types t ts)) = t ∷ tuple ts ∷ []
parts_of (items h t) = t ∷ []
parts_of (set h t) = t ∷ []
parts_of (map_of h k t) = k ∷ t ∷ []
parts_of (option t) = t ∷ []
parts_of (through h t) = t ∷ []
parts_of (named d ts) = tuple ts ∷ []
parts_of _ = []

-- each of the types is one of the first so many of the list
abbrev pub AreAmongFirst : List Open → ℕ → List Open → Type 0
AreAmongFirst known bound [] = Unit {0}
AreAmongFirst known bound (t ∷ ts) = IsAmongFirst known bound t × AreAmongFirst known bound ts

-- the numbers that are there
abbrev pub number_in : Option ℕ → List ℕ
number_in None = []
number_in (Some n) = n ∷ []

abbrev pub numbers_in : Option ℕ × Option ℕ → List ℕ
numbers_in p = number_in p.0 ++ number_in p.1

-- the type is an instance of a declaration, with or without arguments
abbrev pub IsInstance : Open → Type 0
IsInstance (named d ts) = Unit {0}
IsInstance _ = ⊥

-- The law: an instance stands in a type exactly if it is the type, or stands in a part of it.
abbrev pub StandsByParts : Type 0
StandsByParts = (u t : Open) → StandsIn u t ↔ (((u ≡ t) × IsInstance t) ⊎ StandsInOne u (parts_of t))

-- ---- tables

-- different numbers have different types
abbrev pub AreApart : List Open → Type 0
AreApart known = (m n : ℕ) → m < length known → n < length known → type_at known m ≡ type_at known n → m ≡ n

-- What the list of a table is: different numbers have different types, none has a parameter, and the parts of each stand before it.
pub record AreDistinctTypes (known : List Open) : Type 0 where
  pub apart : AreApart known
  pub closed : (n : ℕ) → n < length known → IsClosed (type_at known n)
  pub parts : (n : ℕ) → n < length known → AreAmongFirst known n (parts_of (type_at known n))
