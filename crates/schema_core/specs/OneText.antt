-- The text of a JSON value stands for that value alone.
use Rattle.std.specs.Prelude.{◌≡◌, ◌≤◌, List, Some, map as map_list}
use Rattle.json.specs.Lex.{tokens}
use Rattle.json.specs.Print.{print}
use Rattle.serde_json.specs.Data.{depth}
use Rattle.serde_json.specs.Read.{read, max_depth}
use Rattle.serde_json.specs.Written.{compact_text}
use Rattle.serde_json.specs.Written as written
use Rattle.acceptance.specs.Json.{Json}
use Rattle.acceptance.specs.Data.{data_of}
use Rattle.schema_trees.specs.Held.{IsInOrder, HasShortNumbers, HasNamesInOrder}
use Rattle.schema_core.specs.declared.alternatives.Alternatives.{Alternatives}
use Rattle.schema_core.specs.Document.{Entry, entry_form, document_by, text_of}
use Rattle.schema_core.specs.Entries.{entry_names}

-- Two values of one text are equal, however deep they nest.
abbrev pub OneText : Type 0
OneText = (x y : Json) → HasShortNumbers x → HasShortNumbers y → text_of x ≡ text_of y → x ≡ y

-- Two documents of one text, with one keyword of alternatives, have the same names, and under each name the same JSON.
abbrev pub OneDocument : Type 0
OneDocument = (by : Alternatives) (es fs : List Entry) → IsInOrder (entry_names es) → IsInOrder (entry_names fs) → HasShortNumbers (document_by by es) → HasShortNumbers (document_by by fs) →
    text_of (document_by by es) ≡ text_of (document_by by fs) → map_list (entry_form by) es ≡ map_list (entry_form by) fs

-- The text reads as the value, where it nests no deeper than is read.
abbrev pub TextsReadBack : Type 0
TextsReadBack = (x : Json) → HasShortNumbers x → HasNamesInOrder x → depth (data_of x) ≤ max_depth → read (text_of x) ≡ Some (data_of x)

-- The compact text of the value has its items and members in order, with no space, and reads as the value, where this nests no deeper than is read.
pub record IsCompact (x : Json) : Type 0 where
  pub order : written.IsInOrder (compact_text (data_of x)) (data_of x)
  pub printed : compact_text (data_of x) ≡ print (tokens (compact_text (data_of x)))
  pub reads : depth (data_of x) ≤ max_depth → read (compact_text (data_of x)) ≡ Some (data_of x)

-- The compact text of a value is just that, however deep it nests.
abbrev pub TextsAreCompact : Type 0
TextsAreCompact = (x : Json) → HasShortNumbers x → HasNamesInOrder x → IsCompact x
