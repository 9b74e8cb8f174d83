use Rattle.std.proofs.Common.{◌≡◌, ◌∙◌, List, ℕ, None, Some, option_map, ap, sym, subst}
use Rattle.acceptance.specs.Data.{data_of}
use Rattle.serde_json.specs.View.{view}
use Rattle.schema_core.specs.Document.{document_by}
use Rattle.documents.specs.Components.{schemas_in}
use Rattle.documents.specs.Merge.{taken, open_api, IsMerged, IsOpenApiOf}
use Rattle.file_runs.specs.Given.{named_view}
use Rattle.file_runs.specs.Reports.{openapi_line, taken_line}
use Rattle.file_runs.specs.Shown.{IsUnmade, no_openapi, name_taken}
use Rattle.file_runs.proofs.showing.made.Goals as goal

pub returns-in-NoOpenApi-clause-line : goal.returns-in-NoOpenApi-clause-line
returns-in-NoOpenApi-clause-line c =
    let document = data_of (document_by c.args.by c.args.composition.now) in
    let named = c.in-Some.field-0 in
    let none : open_api (view named.value) ≡ None = subst (IsMerged (view named.value) (schemas_in document)) c.in-NoOpenApi.is (c.in_ok-written.ensures (schemas_in document) c.in_ok-schemas.ensures.texts) in
    let line = c.in_ok-openapi_line-in-NoOpenApi.ensures ∙ ap openapi_line c.as_str.ensures in
    subst (λ o. IsUnmade (option_map named_view o) document c.in_ok-openapi_line-in-NoOpenApi.field-0) (sym c.in-Some.is)
    (subst (IsUnmade (Some (named_view named)) document) (sym line) (no_openapi none))

pub returns-clause-line : goal.returns-clause-line
returns-clause-line c =
    let document = data_of (document_by c.args.by c.args.composition.now) in
    let named = c.in-Some.field-0 in
    let there : IsOpenApiOf (λ o. taken o.schemas (schemas_in document) ≡ Some c.in-Taken.name) (view named.value) =
    subst (IsMerged (view named.value) (schemas_in document)) c.in-Taken.is (c.in_ok-written.ensures (schemas_in document) c.in_ok-schemas.ensures.texts) in
    let line = c.in_ok-line-in-Taken.ensures ∙ ap (λ (p : List ℕ). taken_line p c.as_str-in-Taken-2.result.now) c.as_str-in-Taken.ensures ∙ ap (taken_line named.path) c.as_str-in-Taken-2.ensures in
    subst (λ o. IsUnmade (option_map named_view o) document c.in_ok-line-in-Taken.line) (sym c.in-Some.is)
    (subst (IsUnmade (Some (named_view named)) document) (sym line) (name_taken there))
