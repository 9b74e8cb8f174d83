-- What a line of rows says.
use Rattle.std.specs.Prelude.{◌≡◌, ℕ, List, [], ◌∷◌, Bool, true, false, nat_eq, Some}
use Rattle.std.specs.String.{string_bytes}
use Rattle.serde_json.specs.Data.{Data, null, boolean, number, string, array, object, Items, no_items, item}
use Rattle.serde_json.specs.Read.{read}
use Rattle.serde_json.specs.View.{view}
use Rattle.serde_json.specs.Written.{compact_text, has_float}
use Rattle.rows.specs.declared.error.RowError.{RowError}
use Rattle.rows.specs.declared.error.RowError.TheVariants.{Form, Wanted, Memory}
use Rattle.rows.specs.declared.row.Row.{Row}

-- the line has no row: it is empty, or begins with `#`
abbrev pub is_remark : List ℕ → Bool
is_remark [] = true
is_remark (c ∷ cs) = nat_eq c 35

-- the text of an answer: a text stands for itself, any other JSON for its compact text
abbrev pub answer_text : Data → List ℕ
answer_text null = compact_text null
answer_text (boolean b) = compact_text (boolean b)
answer_text (number n) = compact_text (number n)
answer_text (string s) = s
answer_text (array ds) = compact_text (array ds)
answer_text (object ms) = compact_text (object ms)

-- the data are the row's call, what it is given, and an answer of this text
pub record AreOf (ds : Items) (row : Row) : Type 0 where
  pub answer : Data
  pub are : ds ≡ item (string (string_bytes row.call)) (item (view row.given) (item answer no_items))
  pub text : has_float answer ≡ false → string_bytes row.answer ≡ answer_text answer

-- the data are the parts of no row
abbrev pub AreOfNone : Items → Type 0
AreOfNone ds = (row : Row) → ¬ AreOf ds row

-- the line is the JSON list of the row's parts
abbrev pub IsLineOf : List ℕ → Row → Type 0
IsLineOf line row = (ds : Items) × (read line ≡ Some (array ds)) × AreOf ds row

-- the line is the JSON list of no row's parts
abbrev pub IsLineOfNone : List ℕ → Type 0
IsLineOfNone line = (row : Row) → ¬ IsLineOf line row

-- the line is refused with the error, which holds it: it is no remark, and no row is that line. Memory may run out at any line
abbrev pub IsRefused : List ℕ → RowError → Type 0
IsRefused line (Form held) = (string_bytes held ≡ line) × (is_remark line ≡ false) × IsLineOfNone line
IsRefused line (Wanted part) = ⊥
IsRefused line Memory = Unit {0}
