-- What is written of components, by what the request asks for.
use Rattle.std.proofs.Common.{◌≡◌, ◌++◌, ◌∷◌, [], ℕ, List, Bool, true, false, Option, Some, None, refl, sym, subst}
use Rattle.serde_json.specs.Data.{Data}
use Rattle.serde_json.specs.Written.{compact_text}
use Rattle.acceptance.specs.Json.{Json}
use Rattle.acceptance.specs.Data.{data_of}
use Rattle.schema_core.specs.Document.{Entry, text_of}
use Rattle.schema_core.specs.OneText.{IsCompact}
use Rattle.documents.specs.Text.{IsJsonOf, IsTextOf}
use Rattle.file_runs.specs.Given.{Named}
use Rattle.file_runs.specs.Shown.{document_for, is_direct, IsMade, IsTextFor, IsShown, IsUnmade, IsUnshown, unmade, IfLine}
use Rattle.file_runs.specs.declared.request.Request.{Request}
use Rattle.file_runs.specs.declared.showing.Unshown.{Unshown}
use Rattle.file_runs.specs.declared.showing.Unshown.TheVariants.{Memory, Line}

-- a compact text is JSON of its value
pub json_of : (x : Json) → IsCompact x → IsJsonOf false (data_of x) (compact_text (data_of x))
json_of x c = record { reads = c.reads; order = c.order; layout = (c.printed, λ none. refl) }

-- and behind it stands one new line
pub line_is : (x : Json) → text_of x ≡ compact_text (data_of x) ++ 10 ∷ []
unfolding text_of
line_is x = refl

pub text_is : (x : Json) → IsCompact x → IsTextOf false (data_of x) (text_of x)
unfolding text_of
text_is x c = (compact_text (data_of x), refl, json_of x c)

-- the text that is written straight from the components
direct_text : (pretty : Bool) (openapi check : Option Named) (document : Json) (text : List ℕ) → is_direct openapi check ≡ true → (pretty ≡ false → text ≡ text_of document) → IsTextOf pretty (data_of document) text →
    IsMade openapi (data_of document) (data_of document) × IsTextFor pretty openapi check document (data_of document) text
direct_text false None None document text direct compact is = (refl, compact refl)
direct_text true None None document text direct compact is = (refl, is)
direct_text pretty None (Some old) document text direct compact is = cc
direct_text pretty (Some api) check document text direct compact is = cc

pub direct_shown : (r : Request) (openapi check : Option Named) (components : List Entry) (text : List ℕ) → is_direct openapi check ≡ true → (r.pretty ≡ false → text ≡ text_of (document_for r components)) →
    IsTextOf r.pretty (data_of (document_for r components)) text → IsShown r openapi check components text
direct_shown r openapi check components text direct compact is =
    let shown = direct_text r.pretty openapi check (document_for r components) text direct compact is in
    record { value = data_of (document_for r components); made = shown.0; text_is = shown.1 }

-- the text of the value, which goes into another document
value_text : (pretty : Bool) (openapi : Option Named) (document : Json) (value : Data) (text : List ℕ) → is_direct openapi None ≡ false → IsTextOf pretty value text → IsTextFor pretty openapi None document value text
value_text pretty None document value text other is = cc
value_text false (Some api) document value text other is = is
value_text true (Some api) document value text other is = is

pub value_shown : (r : Request) (openapi check : Option Named) (components : List Entry) (value : Data) (text : List ℕ) → is_direct openapi check ≡ false → check ≡ None → IsMade openapi (data_of (document_for r components)) value →
    IsTextOf r.pretty value text → IsShown r openapi check components text
value_shown r openapi check components value text other none made is = record {
  value = value;
  made = made;
  text_is = subst (λ o. IsTextFor r.pretty openapi o (document_for r components) value text) (sym none) (value_text r.pretty openapi (document_for r components) value text (subst (λ o. is_direct openapi o ≡ false) none other) is);
}

-- where the document goes into no OpenAPI document, nothing is written
pub line_of : (r : Request) (openapi check : Option Named) (components : List Entry) (document : Data) (e : Unshown) → document ≡ data_of (document_for r components) → IfLine (IsUnmade openapi document) e → IfLine (IsUnshown r components openapi check) e
line_of r openapi check components document Memory same told = tt
line_of r openapi check components document (Line line) same told = unmade (subst (λ d. IsUnmade openapi d line) same told)
