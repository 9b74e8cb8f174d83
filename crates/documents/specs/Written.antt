-- Documents that are written already: the JSON of the whole, and of each schema.
use Rattle.std.specs.Prelude.{◌≡◌, ⊤, ℕ, List, [], ◌∷◌, false}
use Rattle.std.specs.Cmp.Lexicographic.{slice_cmp}
use Rattle.std.specs.List.Sorted.{IsStrictlySortedBy}
use Rattle.std.specs.Map.{keys_of}
use Rattle.std.specs.Ordering.{nat_cmp}
use Rattle.serde_json.specs.Data.{Data, Members, no_members, member}
use Rattle.documents.specs.Components.{schemas_in}
use Rattle.documents.specs.Text.{IsJsonOf}
use Rattle.documents.specs.declared.written.Written.{Written}

-- the texts have the names of the values, in one order, and each is JSON of the value
abbrev pub AreTextsOf : Members → List (List ℕ × List ℕ) → Type 0
AreTextsOf no_members [] = ⊤
AreTextsOf no_members (t ∷ ts) = ⊥
AreTextsOf (member name value ms) [] = ⊥
AreTextsOf (member name value ms) (t ∷ ts) = (t.0 ≡ name) × IsJsonOf false value t.1 × AreTextsOf ms ts

-- each name stands once, in byte order, as in a map
abbrev pub AreNamedInOrder : List (List ℕ × List ℕ) → Type 0
AreNamedInOrder ts = IsStrictlySortedBy (slice_cmp nat_cmp) (keys_of ts)

-- the texts are those of the document, and of its schemas
pub record IsWrittenOf (value : Data) (written : Written) : Type 0 where
  pub json : IsJsonOf false value written.json
  pub schemas : AreTextsOf (schemas_in value) written.schemas
  pub order : AreNamedInOrder written.schemas
