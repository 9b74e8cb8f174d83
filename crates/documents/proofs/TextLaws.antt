-- The text of a value reads as the value.
use Rattle.std.proofs.Common.{◌≡◌, ℕ, List, ◌∙◌, ap, option_and_then}
use Rattle.json.specs.Lex.{tokens}
use Rattle.json.specs.Json as json
use Rattle.serde_json.specs.Read.{read, of_json, max_depth}
use Rattle.documents.specs.Text.{TextsReadBack}
use Rattle.documents.proofs.NewLine.{tokens-line}

-- what a text reads as is said by its tokens
pub same_read : (one other : List ℕ) → tokens one ≡ tokens other → read one ≡ read other
same_read one other same = ap (λ ts. option_and_then of_json (option_and_then (λ p. json.if_last p.0 p.1) (json.value max_depth ts))) same

pub texts_read_back : TextsReadBack
texts_read_back is_pretty value text h shallow = ap read h.1 ∙ same_read _ _ (tokens-line h.0) ∙ h.2.reads shallow
