-- The documents that options name, read while files hold the same.
use Rattle.std.proofs.Common.{◌≡◌, ◌∙◌, ℕ, List, Bool, Option, Some, None, MatchOption, ap, sym, subst}
use Rattle.serde_json.specs.Data.{Data}
use Rattle.serde_json.specs.View.{view}
use Rattle.serde_json.specs.declared.value.Value.{Value}
use Rattle.documents.specs.Text.{IsJson}
use Rattle.files.specs.Held.{IsHeld}
use Rattle.gathering.specs.Files.{most_bytes}
use Rattle.file_runs.specs.Contents.{IsReadOf, TellsDocument}
use Rattle.file_runs.specs.Given.{Named, IsDocumentText, IsDocumentAt, RefusesDocument}
use Rattle.file_runs.specs.Reports.{document_line}
use Rattle.file_runs.specs.declared.ending.Ending.{Ending}
use Rattle.file_runs.specs.declared.ending.Ending.TheVariants.{Done, Refused, Usage, ReadFault, Memory, FileFault}

module _ (ones tells : Bool) (hold held : List ℕ → Option (List ℕ)) (same : ones ≡ tells) (holds : (path : List ℕ) → hold path ≡ held path) where
  pub document_back : (path : Option (List ℕ)) (document : Option Named) → IsDocumentAt ones hold path document → IsDocumentAt tells held path document
  document_back path None is = is
  document_back path (Some named) (is, bytes, at, value) = (is, bytes, subst (λ o. IsHeld tells o bytes) (holds named.0) (subst (λ b. IsHeld b (hold named.0) bytes) same at), value)

  pub tells_back : (path : List ℕ) (ending : Ending) → TellsDocument ones (hold path) path ending → TellsDocument tells (held path) path ending
  tells_back path (Refused report) refused = subst (λ o. RefusesDocument tells o path report) (holds path) (subst (λ b. RefusesDocument b (hold path) path report) same refused)
  tells_back path (FileFault report) told = told
  tells_back path Memory told = tt
  tells_back path (Done text beside) told = absurd told
  tells_back path (Usage report) told = absurd told
  tells_back path ReadFault told = absurd told

-- what is read is a document if its bytes are
pub read_document : (bytes given : List ℕ) (read : Option (List ℕ)) (found : Option Value) → read ≡ Some bytes → given ≡ bytes → MatchOption found ((value : Data) → ¬ (IsJson given value)) (λ value. IsJson given (view value))
    → (text : List ℕ) → IsReadOf most_bytes text read → MatchOption found ((value : Data) → ¬ (IsDocumentText text value)) (λ value. IsDocumentText text (view value))
read_document bytes given read None is same none text of = λ value (short, json). let whole = subst (IsReadOf most_bytes text) is of in none value (subst (λ v. IsJson v value) (sym (same ∙ sym whole.0)) json)
read_document bytes given read (Some value) is same json text of = let whole = subst (IsReadOf most_bytes text) is of in (whole.1, subst (λ v. IsJson v (view value)) (same ∙ sym whole.0) json)

-- what is said of the text of a file by what was read of it
abbrev Finds : Option (List ℕ) → Option Value → Type 0
Finds read found = (text : List ℕ) → IsReadOf most_bytes text read → MatchOption found ((value : Data) → ¬ (IsDocumentText text value)) (λ value. IsDocumentText text (view value))

module _ (tells : Bool) (held : List ℕ → Option (List ℕ)) (path also : List ℕ) (read : Option (List ℕ)) (found : Option Value) (same : also ≡ path) (made : (text : List ℕ) × IsHeld tells (held also) text × IsReadOf most_bytes text read)
    (finds : Finds read found) where
  there : IsHeld tells (held path) made.0
  there = subst (λ p. IsHeld tells (held p) made.0) same made.1

  -- the document of the file at the path
  pub document_there : (named : Option (List ℕ)) (copied : List ℕ) (value : Value) → named ≡ Some path → copied ≡ path → found ≡ Some value → IsDocumentAt tells held named (Some (copied, view value))
  document_there named copied value is copy some =
      let text = subst (λ o. MatchOption o ((v : Data) → ¬ (IsDocumentText made.0 v)) (λ v. IsDocumentText made.0 (view v))) some (finds made.0 made.2) in
      subst (λ p. IsDocumentAt tells held named (Some (p, view value))) (sym copy) (is, made.0, there, text)

  -- or what is told where it is none
  pub no_document_there : (other line : List ℕ) → other ≡ path → line ≡ document_line other → found ≡ None → RefusesDocument tells (held path) path line
  no_document_there other line at is none = record {
    bytes = made.0;
    is_held = there;
    none = subst (λ o. MatchOption o ((v : Data) → ¬ (IsDocumentText made.0 v)) (λ v. IsDocumentText made.0 (view v))) none (finds made.0 made.2);
    report_is = is ∙ ap document_line at;
  }
