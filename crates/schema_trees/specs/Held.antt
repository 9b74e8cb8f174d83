-- JSON values that `serde_json` can hold.
use Rattle.std.specs.Prelude.{◌≡◌, ℕ, ℤ, List}
use Rattle.std.specs.Cmp.Lexicographic.{slice_cmp}
use Rattle.std.specs.List.Sorted.{IsStrictlySortedBy}
use Rattle.std.specs.Ordering.{nat_cmp}
use Rattle.serde_json.specs.Data.{Num, Data, Items as DataItems, Members as DataMembers}
use Rattle.acceptance.specs.Json.{Json, null, boolean, number, text, list, map, Items, no_items, item, Members, no_members, member, entries, names}
use Rattle.acceptance.specs.Data.{num_of, data_of, items_data, members_data}
use Rattle.schema_trees.specs.Bound.{IsShort}

-- the names are distinct and in byte order
abbrev pub IsInOrder : List (List ℕ) → Type 0
IsInOrder names = IsStrictlySortedBy (slice_cmp nat_cmp) names

-- each number is one that `serde_json` holds, from -2^63 to 2^64 - 1
abbrev mutual
  pub HasShortNumbers : Json → Type 0
  HasShortNumbers null = Unit {0}
  HasShortNumbers (boolean b) = Unit {0}
  HasShortNumbers (number n) = IsShort n
  HasShortNumbers (text s) = Unit {0}
  HasShortNumbers (list xs) = ItemsHaveShortNumbers xs
  HasShortNumbers (map ms) = MembersHaveShortNumbers ms

  pub ItemsHaveShortNumbers : Items → Type 0
  ItemsHaveShortNumbers no_items = Unit {0}
  ItemsHaveShortNumbers (item x xs) = HasShortNumbers x × ItemsHaveShortNumbers xs

  pub MembersHaveShortNumbers : Members → Type 0
  MembersHaveShortNumbers no_members = Unit {0}
  MembersHaveShortNumbers (member k x ms) = HasShortNumbers x × MembersHaveShortNumbers ms

-- the names of each map are distinct and in byte order
abbrev mutual
  pub HasNamesInOrder : Json → Type 0
  HasNamesInOrder null = Unit {0}
  HasNamesInOrder (boolean b) = Unit {0}
  HasNamesInOrder (number n) = Unit {0}
  HasNamesInOrder (text s) = Unit {0}
  HasNamesInOrder (list xs) = ItemsHaveNamesInOrder xs
  HasNamesInOrder (map ms) = IsInOrder (names (entries ms)) × MembersHaveNamesInOrder ms

  pub ItemsHaveNamesInOrder : Items → Type 0
  ItemsHaveNamesInOrder no_items = Unit {0}
  ItemsHaveNamesInOrder (item x xs) = HasNamesInOrder x × ItemsHaveNamesInOrder xs

  pub MembersHaveNamesInOrder : Members → Type 0
  MembersHaveNamesInOrder no_members = Unit {0}
  MembersHaveNamesInOrder (member k x ms) = HasNamesInOrder x × MembersHaveNamesInOrder ms

-- `serde_json` can hold the value: its numbers are short, and the names of each map are distinct and in byte order
abbrev pub IsHeld : Json → Type 0
IsHeld x = HasShortNumbers x × HasNamesInOrder x

-- ---- what `serde_json` holds for such a value, for a list of them and for a map, or for a number

abbrev pub HoldsNumber : Num → Type 0
HoldsNumber n = (z : ℤ) × IsShort z × (n ≡ num_of z)

abbrev pub HoldsValue : Data → Type 0
HoldsValue d = (x : Json) × IsHeld x × (d ≡ data_of x)

abbrev pub HoldsItems : DataItems → Type 0
HoldsItems ds = (xs : Items) × IsHeld (list xs) × (ds ≡ items_data xs)

abbrev pub HoldsMembers : DataMembers → Type 0
HoldsMembers ds = (ms : Members) × IsHeld (map ms) × (ds ≡ members_data ms)
