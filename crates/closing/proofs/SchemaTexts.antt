-- Texts of the schemas of entries, one after another.
use Rattle.std.proofs.Common.{◌≡◌, ℕ, List, [], ◌∷◌, ◌++◌}
use Rattle.schema_core.specs.declared.alternatives.Alternatives.{Alternatives}
use Rattle.schema_core.specs.Document.{Entry}
use Rattle.schema_core.specs.Form.{form_by}
use Rattle.schema_core.specs.Writes.{WritesValue}
use Rattle.closing.specs.Texts.{AreSchemaTexts}

-- one text more
pub texts_and_one : (by : Alternatives) (es : List Entry) (ts : List (List ℕ × List ℕ)) (e : Entry) (t : List ℕ × List ℕ) → AreSchemaTexts by es ts → t.0 ≡ e.0 → WritesValue (form_by by e.1) [] t.1 → AreSchemaTexts by (es ++ e ∷ []) (ts ++ t ∷ [])
texts_and_one by [] [] e t are named right = (named, right, tt)
texts_and_one by [] (u ∷ ts) e t are named right = absurd are
texts_and_one by (d ∷ es) [] e t are named right = absurd are
texts_and_one by (d ∷ es) (u ∷ ts) e t are named right = (are.0, are.1, texts_and_one by es ts e t are.2 named right)
