use Rattle.std.proofs.Common.{◌∙◌, ◌++◌, ℕ, List, ap₂, subst, inl, inr}
use Rattle.file_runs.specs.Shown.{wanted, IsUnshown, IfLine}
use Rattle.file_runs.specs.declared.showing.Unshown.{Unshown}
use Rattle.file_runs.proofs.Strict.{reported, none_counted, some_counted}
use Rattle.file_runs.proofs.document.written_of.Goals as goal

pub returns-then-are_refused-clause-ending : goal.returns-then-are_refused-clause-ending
returns-then-are_refused-clause-ending c = λ all first.
    let yes = c.if-are_refused.ensures in
    inl (yes.0, some_counted all c.args.warnings.now.count first.1 yes.1, c.in_ok-report.ensures ∙ reported all c.as_slice.result.now c.args.warnings.now c.as_slice.ensures first)

pub returns-in-Ok-clause-written : goal.returns-in-Ok-clause-written
returns-in-Ok-clause-written c = λ all first. record {
  calm = λ strict. none_counted all c.args.warnings.now.count first.1 (c.if-are_refused.ensures strict);
  shown = c.in-Ok.ensures.shown;
  report_is = c.in_ok-report.ensures ∙ reported all c.as_slice.result.now c.args.warnings.now c.as_slice.ensures first;
}

pub returns-in_ok-push-in-Err-Line-clause-ending : goal.returns-in_ok-push-in-Err-Line-clause-ending
returns-in_ok-push-in-Err-Line-clause-ending c = λ all first.
    let w = wanted c.args.request.now c.args.openapi c.args.check.now in
    let warned = c.in_ok-report.ensures ∙ reported all c.as_slice.result.now c.args.warnings.now c.as_slice.ensures first in
    let line = subst (λ (e : Unshown). IfLine (IsUnshown w.request c.args.composition.now w.openapi w.check) e) c.in-Err-Line.field-0-is c.in-Err-Line.ensures.line in
    inr (
      λ strict. none_counted all c.args.warnings.now.count first.1 (c.if-are_refused.ensures strict),
      c.in-Err-Line.line,
      line,
      c.in_ok-push-in-Err-Line.ensures.ok ∙ ap₂ (λ (a b : List ℕ). a ++ b) warned c.as_str.ensures,
    )
