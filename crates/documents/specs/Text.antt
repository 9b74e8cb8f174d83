-- JSON texts (RFC 8259) and the values that they are, as serde_json reads and writes them.
use Rattle.std.specs.Prelude.{◌≡◌, ℕ, ◌≤◌, List, [], ◌∷◌, ◌++◌, Bool, true, false, Some, IsUtf8}
use Rattle.json.specs.Lex.{tokens}
use Rattle.json.specs.Layout.{pretty}
use Rattle.json.specs.Print.{print}
use Rattle.serde_json.specs.Data.{Data, depth}
use Rattle.serde_json.specs.Read.{read, max_depth}
use Rattle.serde_json.specs.Written.{has_float, compact_text, IsInOrder}

-- bytes that are a text of JSON, and its value
abbrev pub IsJson : List ℕ → Data → Type 0
IsJson bytes value = IsUtf8 bytes × (read bytes ≡ Some value)

-- Pretty: each item and each member on a line of its own, with two spaces of indent for each bracket around it.
-- Compact: no space between the tokens.
abbrev pub IsLaidOut : Bool → List ℕ → Data → Type 0
IsLaidOut true json value = json ≡ pretty (tokens json)
IsLaidOut false json value = (json ≡ print (tokens json)) × (has_float value ≡ false → json ≡ compact_text value)

-- the JSON of a value: it reads as the value, where this nests no deeper than is read, and has its items and members once each, in order
pub record IsJsonOf (is_pretty : Bool) (value : Data) (json : List ℕ) : Type 0 where
  pub reads : depth value ≤ max_depth → read json ≡ Some value
  pub order : IsInOrder json value
  pub layout : IsLaidOut is_pretty json value

-- the JSON of a value, and one new line
abbrev pub IsTextOf : Bool → Data → List ℕ → Type 0
IsTextOf is_pretty value text = (json : List ℕ) × (text ≡ json ++ 10 ∷ []) × IsJsonOf is_pretty value json

-- ---- laws

-- A text of a value, compact or pretty, reads as the value, where it nests no deeper than is read. So two texts of one value read as
-- one value, whatever their layouts.
abbrev pub TextsReadBack : Type 0
TextsReadBack = (is_pretty : Bool) (value : Data) (text : List ℕ) → IsTextOf is_pretty value text → depth value ≤ max_depth → read text ≡ Some value
