-- What is written of the document of components, or why nothing is: it goes into an OpenAPI document, and is compared with another.
use Rattle.std.specs.Prelude.{◌≡◌, ◌≢◌, ◌⊎◌, ℕ, List, [], ◌++◌, Bool, true, false, cond, Option, Some, None, option_map}
use Rattle.serde_json.specs.Data.{Data}
use Rattle.acceptance.specs.Json.{Json}
use Rattle.acceptance.specs.Data.{data_of}
use Rattle.schema_core.specs.Document.{Entry, document_by, text_of}
use Rattle.schema_core.specs.declared.alternatives.Alternatives.{Alternatives}
use Rattle.schema_core.specs.declared.alternatives.Alternatives.TheVariants.{OneOf, AnyOf}
use Rattle.telling.specs.Told.{all_told}
use Rattle.telling.specs.declared.told.Told.{Told}
use Rattle.documents.specs.Text.{IsTextOf}
use Rattle.documents.specs.Components.{schemas_in}
use Rattle.documents.specs.Merge.{open_api, taken, with_schemas, IsOpenApiOf}
use Rattle.documents.specs.Difference.{AreAlike, IsDifference}
use Rattle.documents.specs.declared.comparing.Difference.{Difference}
use Rattle.file_runs.specs.Given.{Named, named_view}
use Rattle.file_runs.specs.Reports.{openapi_line, taken_line, difference_line}
use Rattle.file_runs.specs.declared.document.Written.{Written}
use Rattle.file_runs.specs.declared.named.NamedDocument.{NamedDocument}
use Rattle.file_runs.specs.declared.request.Request.{Request}
use Rattle.file_runs.specs.declared.showing.Unshown.{Unshown}
use Rattle.file_runs.specs.declared.showing.Unshown.TheVariants.{Memory, Line}

-- the keyword of alternatives that is asked for, and the document with it
abbrev pub alternatives : Request → Alternatives
alternatives r = cond r.any_of AnyOf OneOf

abbrev pub document_for : Request → List Entry → Json
document_for r components = document_by (alternatives r) components

-- what becomes of the document: itself, or the OpenAPI document with its schemas, whose names are new there
abbrev pub IsMade : Option Named → Data → Data → Type 0
IsMade None document value = value ≡ document
IsMade (Some api) document value =
    IsOpenApiOf (λ o. (taken o.schemas (schemas_in document) ≡ None) × (value ≡ with_schemas o (schemas_in document))) api.1

-- the document is written straight from the components
abbrev pub is_direct : (openapi check : Option Named) → Bool
is_direct None None = true
is_direct _ _ = false

-- its text: compact and straight from the components, or as `serde_json` writes the value
abbrev pub IsWrittenAs : (pretty : Bool) → Option Named → Json → Data → List ℕ → Type 0
IsWrittenAs false None document value text = text ≡ text_of document
IsWrittenAs pretty openapi document value text = IsTextOf pretty value text

-- nothing is written of what is compared, and the same
abbrev pub IsTextFor : (pretty : Bool) → (openapi check : Option Named) → Json → Data → List ℕ → Type 0
IsTextFor pretty openapi None document value text = IsWrittenAs pretty openapi document value text
IsTextFor pretty openapi (Some old) document value text = AreAlike old.1 value × (text ≡ [])

-- This is written of the components.
pub record IsShown (r : Request) (openapi check : Option Named) (components : List Entry) (text : List ℕ) : Type 0 where
  pub value : Data
  pub made : IsMade openapi (data_of (document_for r components)) value
  pub text_is : IsTextFor r.pretty openapi check (document_for r components) value text

-- The document goes into no OpenAPI document, and this line tells why: there is none, or it has a schema of the name of a new one.
pub data IsUnmade : (openapi : Option Named) → (document : Data) → List ℕ → Type 0 where
  no_openapi : {api : Named} {document : Data} → open_api api.1 ≡ None → IsUnmade (Some api) document (openapi_line api.0)
  name_taken : {api : Named} {document : Data} {name : List ℕ} → IsOpenApiOf (λ o. taken o.schemas (schemas_in document) ≡ Some name) api.1 → IsUnmade (Some api) document (taken_line api.0 name)

-- Nothing is written of the components, and this line tells why: they go into no OpenAPI document, or what becomes of them is another than what it is compared with.
pub data IsUnshown (r : Request) (components : List Entry) : (openapi check : Option Named) → List ℕ → Type 0 where
  unmade : {openapi check : Option Named} {line : List ℕ} → IsUnmade openapi (data_of (document_for r components)) line → IsUnshown r components openapi check line
  differs : {openapi : Option Named} {old : Named} (value : Data) (difference : Difference) → IsMade openapi (data_of (document_for r components)) value → IsDifference old.1 value difference
      → IsUnshown r components openapi (Some old) (difference_line old.0 difference)

-- what a function tells in a line, unless memory ran out
abbrev pub IfLine : (List ℕ → Type 0) → Unshown → Type 0
IfLine Is Memory = Unit {0}
IfLine Is (Line line) = Is line

-- what the options ask for, with the documents that they name
pub record Wanted : Type 0 where
  pub request : Request
  pub openapi : Option Named
  pub check : Option Named

abbrev pub wanted : Request → (openapi check : Option NamedDocument) → Wanted
wanted r openapi check = record { request = r; openapi = option_map named_view openapi; check = option_map named_view check }

-- nothing is written of the components, and the report tells why: by `--strict` for what is warned of, or for what becomes of them
abbrev pub IsUnwritten : Wanted → List Entry → (warnings : List Told) → List ℕ → Type 0
IsUnwritten w components warnings report =
    ((w.request.strict ≡ true) × (warnings ≢ []) × (report ≡ all_told warnings))
    ⊎ ((w.request.strict ≡ true → warnings ≡ []) × (line : List ℕ) × IsUnshown w.request components w.openapi w.check line × (report ≡ all_told warnings ++ line))

-- this is written of the components, and the report tells what is warned of; by `--strict` there is none
pub record IsWritten (w : Wanted) (components : List Entry) (warnings : List Told) (written : Written) : Type 0 where
  pub calm : w.request.strict ≡ true → warnings ≡ []
  pub shown : IsShown w.request w.openapi w.check components written.document
  pub report_is : written.report ≡ all_told warnings
