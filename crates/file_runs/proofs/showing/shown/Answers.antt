use Rattle.std.proofs.Common.{◌≡◌, ◌∙◌, List, ℕ, None, Some, false, option_map, MatchOption, ap, sym, subst, rules}
use Rattle.std.proofs.lemmas.Result.{err_from_is_err_and}
use Rattle.acceptance.specs.Json.{Json}
use Rattle.acceptance.specs.Data.{data_of}
use Rattle.schema_core.specs.Document.{document_by, text_of}
use Rattle.schema_core.specs.declared.alternatives.Alternatives.{Alternatives}
use Rattle.serde_json.specs.Data.{Data}
use Rattle.serde_json.specs.View.{view}
use Rattle.documents.specs.Difference.{AreAlike, IsDifference}
use Rattle.documents.specs.Text.{IsTextOf}
use Rattle.file_runs.specs.Given.{named_view}
use Rattle.file_runs.specs.Reports.{difference_line}
use Rattle.file_runs.specs.Shown.{document_for, IsMade, IsUnshown, differs}
use Rattle.file_runs.proofs.Lines.{text_is, direct_shown, value_shown, line_of}
use Rattle.file_runs.proofs.showing.shown.Goals as goal

pub returns-then-is_direct-clause-shown : goal.returns-then-is_direct-clause-shown
returns-then-is_direct-clause-shown c =
    let r = c.args.request.now in
    let components = c.args.composition.now in
    let x = document_by c.alternatives-by.result components in
    let held = c.in_ok-text.ensures.held in
    let same : x ≡ document_for r components = ap (λ (by : Alternatives). document_by by components) c.alternatives-by.ensures in
    let text : IsTextOf false (data_of x) c.in_ok-text.text = subst (λ (t : List ℕ). IsTextOf false (data_of x) t) (sym c.in_ok-text.ensures.text) (text_is x (c.texts_are_compact.ensures x held.0 held.1)) in
    direct_shown r _ _ components _ (sym c.is_direct.ensures ∙ c.if-is_direct.true)
    (λ plain. c.in_ok-laid_out.ensures.compact plain ∙ c.in_ok-text.ensures.text ∙ ap text_of same)
    (subst (λ (d : Json). IsTextOf r.pretty (data_of d) c.in_ok-laid_out.field-0) same (c.in_ok-laid_out.ensures.layout (data_of x) text))

pub returns-in_err-written-clause-line : goal.returns-in_err-written-clause-line
returns-in_err-written-clause-line c =
    let components = c.args.composition.now in
    let p = err_from_is_err_and c.from_residual-in_err-written.result c.from_residual-in_err-written.ensures.1 in
    let same = ap (λ (by : Alternatives). data_of (document_by by components)) c.alternatives-by.ensures in
    rw (p.1, p.2) (line_of c.args.request.now _ _ components _ _ same c.in_err-written.ensures.line)

pub returns-in_default-clause-shown : goal.returns-in_default-clause-shown
returns-in_default-clause-shown c =
    let r = c.args.request.now in
    let components = c.args.composition.now in
    let openapi = option_map named_view c.args.openapi in
    let made = c.in_ok-written.ensures.made in
    let same = ap (λ (by : Alternatives). data_of (document_by by components)) c.alternatives-by.ensures in
    let none : option_map named_view c.args.check.now ≡ None = search rules in
    value_shown r openapi _ components made.0 _ (sym c.is_direct.ensures ∙ c.if-is_direct.false) none
    (subst (λ (d : Data). IsMade openapi d made.0) same made.1)
    (c.in_ok-laid_out-2.ensures.layout made.0 (c.in_ok-written.written.json, c.in_ok-push.ensures.ok, made.2.json))

pub returns-clause-line : goal.returns-clause-line
returns-clause-line c =
    let r = c.args.request.now in
    let components = c.args.composition.now in
    let openapi = option_map named_view c.args.openapi in
    let old = c.in-Some.old in
    let made = c.in_ok-written.ensures.made in
    let found = c.in-Some-2.found in
    let same = ap (λ (by : Alternatives). data_of (document_by by components)) c.alternatives-by.ensures in
    let is_made = subst (λ (d : Data). IsMade openapi d made.0) same made.1 in
    let difference : IsDifference (view old.value) made.0 found =
    subst (λ o. MatchOption o (AreAlike (view old.value) made.0) (IsDifference (view old.value) made.0)) c.in-Some-2.is (c.in_ok-compare.ensures made.0 made.2) in
    let line = c.in_ok-line-in-Some-2.ensures ∙ ap (λ (p : List ℕ). difference_line p found) c.as_str.ensures in
    subst (λ o. IsUnshown r components openapi (option_map named_view o) c.in_ok-line-in-Some-2.line) (sym c.in-Some.is)
    (subst (IsUnshown r components openapi (Some (named_view old))) (sym line) (differs made.0 found is_made difference))
