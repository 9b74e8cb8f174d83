-- How two documents differ, by what serde_json writes for them. Two texts of one value may differ where floats stand in it: no
-- contract of serde_json says which digits a float has, and then nothing more is said than that the texts differ.
use Rattle.std.specs.Prelude.{◌≡◌, ◌≢◌, ◌≤◌, ℕ, List, Option, Some, None, IsSome, false, ⊤}
use Rattle.std.specs.Ordering.{nat_cmp}
use Rattle.std.specs.Cmp.Lexicographic.{slice_cmp}
use Rattle.std.specs.declared.cmp.Ordering.TheVariants.{Less}
use Rattle.serde_json.specs.Data.{Data, Members, depth}
use Rattle.serde_json.specs.Find.{get_member}
use Rattle.serde_json.specs.Read.{max_depth}
use Rattle.serde_json.specs.Written.{has_float}
use Rattle.documents.specs.Components.{schemas_in}
use Rattle.documents.specs.Text.{IsJsonOf}
use Rattle.documents.specs.declared.comparing.Difference.{Difference}
use Rattle.documents.specs.declared.comparing.Difference.TheVariants.{Missing, Surplus, Another, Elsewhere}

-- one compact text is written for both values
abbrev pub AreAlike : Data → Data → Type 0
AreAlike one other = (json : List ℕ) × IsJsonOf false one json × IsJsonOf false other json

-- two compact texts are written for the values
abbrev pub AreOthers : Data → Data → Type 0
AreOthers one other = (json : List ℕ) × (another : List ℕ) × IsJsonOf false one json × IsJsonOf false other another × (json ≢ another)

-- ---- what stands under a name in the old schemas, and what in the new

abbrev pub IsSame : Option Data → Option Data → Type 0
IsSame None None = ⊤
IsSame None (Some new) = ⊥
IsSame (Some old) None = ⊥
IsSame (Some old) (Some new) = AreAlike old new

abbrev pub IsMissing : Option Data → Option Data → Type 0
IsMissing old new = (old ≡ None) × IsSome new

abbrev pub IsSurplus : Option Data → Option Data → Type 0
IsSurplus old new = IsSome old × (new ≡ None)

abbrev pub IsAnother : Option Data → Option Data → Type 0
IsAnother (Some old) (Some new) = AreOthers old new
IsAnother _ _ = ⊥

-- ---- documents

abbrev pub AtName : (Option Data → Option Data → Type 0) → List ℕ → Members → Members → Type 0
AtName Fact name olds news = Fact (get_member name olds) (get_member name news)

-- the fact holds of the name, and what stands under each name before it is the same
abbrev pub IsFirst : (Option Data → Option Data → Type 0) → List ℕ → Members → Members → Type 0
IsFirst Fact name olds news = AtName Fact name olds news × ((earlier : List ℕ) → slice_cmp nat_cmp earlier name ≡ Less → AtName IsSame earlier olds news)

abbrev pub DifferFirst : Members → Members → Difference → Type 0
DifferFirst olds news (Missing name) = IsFirst IsMissing name olds news
DifferFirst olds news (Surplus name) = IsFirst IsSurplus name olds news
DifferFirst olds news (Another name) = IsFirst IsAnother name olds news
DifferFirst olds news Elsewhere = ⊥

-- The first of the schemas whose text differs, in byte order of names. Elsewhere: none does, and the texts of the documents differ.
abbrev pub IsDifference : Data → Data → Difference → Type 0
IsDifference old new Elsewhere = ((name : List ℕ) → AtName IsSame name (schemas_in old) (schemas_in new)) × AreOthers old new
IsDifference old new difference = DifferFirst (schemas_in old) (schemas_in new) difference

-- ---- laws

-- Values that one text is written for are equal, where both nest no deeper than is read.
abbrev pub AlikeAreEqual : Type 0
AlikeAreEqual = (one other : Data) → AreAlike one other → depth one ≤ max_depth → depth other ≤ max_depth → one ≡ other

-- Values that two texts are written for are not equal, where no float stands in one of them.
abbrev pub OthersDiffer : Type 0
OthersDiffer = (one other : Data) → AreOthers one other → has_float one ≡ false → one ≢ other
