use Rattle.std.proofs.Common.{◌≡◌, ◌∙◌, ◌⊎◌, sym, subst}
use Rattle.std.specs.Io.KnownBytes.{Appends}
use Rattle.file_runs.specs.declared.status.Status.TheVariants.{Done, Usage, Memory, WriteFault}
use Rattle.file_runs.proofs.Consequences.{done_owed, refused_owed, usage_owed, only_usage, only_answer, complete_owed}
use Rattle.file_runs.proofs.program.run.Goals as goal

pub returns-in-Ok-clause-done : goal.returns-in-Ok-clause-done
returns-in-Ok-clause-done g c = λ is. (
  _,
  _,
  done_owed _ _ _ _ c.end_of-ending.ensures.owed (sym c.status.ensures ∙ is),
  subst (Appends _ _) (c.as_bytes-document.ensures.value ∙ c.document.ensures) c.in-Ok.ensures.out,
  subst (Appends _ _) (c.as_bytes-report.ensures.value ∙ c.report.ensures) c.in-Ok.ensures.err,
)

pub returns-in-Ok-clause-refused : goal.returns-in-Ok-clause-refused
returns-in-Ok-clause-refused g c = λ is. (
  _,
  refused_owed _ _ _ _ c.end_of-ending.ensures.owed (sym c.status.ensures ∙ is),
  subst (Appends _ _) (c.as_bytes-report.ensures.value ∙ c.report.ensures) c.in-Ok.ensures.err,
)

pub returns-in-Ok-clause-usage : goal.returns-in-Ok-clause-usage
returns-in-Ok-clause-usage g c = λ is.
    let owed = usage_owed _ _ _ _ c.end_of-ending.ensures.owed (sym c.status.ensures ∙ is) in
    (owed.0, owed.1, subst (Appends _ _) (c.as_bytes-report.ensures.value ∙ c.report.ensures ∙ owed.2) c.in-Ok.ensures.err)

pub returns-in-Ok-clause-only_usage : goal.returns-in-Ok-clause-only_usage
returns-in-Ok-clause-only_usage g c = λ misuse are.
    subst (λ s. (s ≡ Usage) ⊎ (s ≡ Memory) ⊎ (s ≡ WriteFault)) (sym c.status.ensures) (only_usage _ _ _ _ c.end_of-ending.ensures.owed misuse are)

pub returns-in-Ok-clause-answered : goal.returns-in-Ok-clause-answered
returns-in-Ok-clause-answered g c = λ question asks.
    subst (λ s. (s ≡ Done) ⊎ (s ≡ Memory) ⊎ (s ≡ WriteFault)) (sym c.status.ensures) (only_answer _ _ _ _ c.end_of-ending.ensures.owed question asks)

pub returns-in-Ok-clause-complete : goal.returns-in-Ok-clause-complete
returns-in-Ok-clause-complete g c = λ told sound input_calm files_calm out_calm err_calm.
    subst (λ s. (s ≡ Done) ⊎ (s ≡ Memory)) (sym c.status.ensures)
    (complete_owed c.sound_runs_are_not_refused.ensures _ _ _ _ c.end_of-ending.ensures.owed told sound
    (λ failed. input_calm (c.end_of-ending.ensures.failed failed)) (λ failed. files_calm (c.end_of-ending.ensures.files_failed failed).2.0))

pub returns-in-Ok-clause-file_fault : goal.returns-in-Ok-clause-file_fault
returns-in-Ok-clause-file_fault g c = λ is.
    let failed = c.end_of-ending.ensures.files_failed (sym c.status.ensures ∙ is) in
    (failed.0, failed.1, failed.2.0, failed.2.1, subst (Appends _ _) (c.as_bytes-report.ensures.value ∙ c.report.ensures ∙ failed.2.2) c.in-Ok.ensures.err)
