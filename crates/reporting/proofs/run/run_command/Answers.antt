use Rattle.std.proofs.Common.{◌≡◌, ◌∙◌, ◌⊎◌, inl, inr, refl, sym, subst}
use Rattle.std.specs.Io.KnownBytes.{Appends}
use Rattle.streams.specs.Told.{AppendsPart}
use Rattle.reporting.specs.Beginning.{beginning_of}
use Rattle.reporting.specs.Endings.{document_of, report_of}
use Rattle.reporting.specs.Owed.{Owes}
use Rattle.reporting.specs.declared.status.Status.TheVariants.{Done, Memory}
use Rattle.reporting.proofs.Consequences.{answer_owed, refused_owed, usage_owed, usage_line, read_owed, read_line, file_line, document_alone, no_document, never_write_fault, complete_owed, is_not_done, is_not_refused, is_not_usage, is_no_read_fault, is_no_file_fault, is_not_memory}
use Rattle.reporting.proofs.Written.{none_kept}
use Rattle.reporting.proofs.run.run_command.Given
use Rattle.reporting.proofs.run.run_command.Goals as goal

-- ---- all was written

document_written : (g : Given.Over) (c : goal.Joined-ending g) → Appends (g.O.Sink.written c.args.out.now) (g.O.Sink.written c.deliver.new.out) (document_of c.end_of-ending.result)
document_written g c = subst (Appends _ _) (c.as_bytes-document.ensures.value ∙ c.document.ensures) c.in-Ok.ensures.out

report_written : (g : Given.Over) (c : goal.Joined-ending g) → Appends (g.E.Sink.written c.args.err.now) (g.E.Sink.written c.deliver.new.err) (report_of c.end_of-ending.result)
report_written g c = subst (Appends _ _) (c.as_bytes-report.ensures.value ∙ c.report.ensures) c.in-Ok.ensures.err

pub returns-in-Ok-clause-done : goal.returns-in-Ok-clause-done
returns-in-Ok-clause-done g c = λ is. (_, answer_owed _ _ _ _ _ c.end_of-ending.ensures.owed (sym c.status.ensures ∙ is), document_written g c)

pub returns-in-Ok-clause-refused : goal.returns-in-Ok-clause-refused
returns-in-Ok-clause-refused g c = λ kind is. (_, refused_owed _ _ _ _ _ c.end_of-ending.ensures.owed kind (sym c.status.ensures ∙ is), report_written g c)

pub returns-in-Ok-clause-usage : goal.returns-in-Ok-clause-usage
returns-in-Ok-clause-usage g c = λ is. usage_owed _ _ _ _ _ c.end_of-ending.ensures.owed (sym c.status.ensures ∙ is)

pub returns-in-Ok-clause-usage_line : goal.returns-in-Ok-clause-usage_line
returns-in-Ok-clause-usage_line g c = λ is. subst (Appends _ _) (usage_line _ _ _ _ _ c.end_of-ending.ensures.owed (sym c.status.ensures ∙ is)) (report_written g c)

pub returns-in-Ok-clause-only_usage : goal.returns-in-Ok-clause-only_usage
returns-in-Ok-clause-only_usage g c = λ none. inl (c.status.ensures ∙ c.end_of-ending.ensures.usage none)

pub returns-in-Ok-clause-missing : goal.returns-in-Ok-clause-missing
returns-in-Ok-clause-missing g c = λ path form named gone.
    elim (c.end_of-ending.ensures.missing path named gone form) [ inl fault ↦ inl (c.status.ensures ∙ fault) | inr memory ↦ inr (inl (c.status.ensures ∙ memory)) ]

pub returns-in-Ok-clause-unread : goal.returns-in-Ok-clause-unread
returns-in-Ok-clause-unread g c = c.end_of-ending.ensures.unread

pub returns-in-Ok-clause-unread_fault : goal.returns-in-Ok-clause-unread_fault
returns-in-Ok-clause-unread_fault g c = λ is. c.end_of-ending.ensures.unread_fault (sym c.status.ensures ∙ is)

pub returns-in-Ok-clause-unread_refusal : goal.returns-in-Ok-clause-unread_refusal
returns-in-Ok-clause-unread_refusal g c = λ kind is. c.end_of-ending.ensures.unread_refusal kind (sym c.status.ensures ∙ is)

pub returns-in-Ok-clause-no_file : goal.returns-in-Ok-clause-no_file
returns-in-Ok-clause-no_file g c = c.end_of-ending.ensures.no_file

pub returns-in-Ok-clause-tells_on : goal.returns-in-Ok-clause-tells_on
returns-in-Ok-clause-tells_on g c = c.end_of-ending.ensures.tells_on

pub returns-in-Ok-clause-same : goal.returns-in-Ok-clause-same
returns-in-Ok-clause-same g c = c.end_of-ending.ensures.same

pub returns-in-Ok-clause-complete : goal.returns-in-Ok-clause-complete
returns-in-Ok-clause-complete g c = λ form sound input_calm files_calm out_calm err_calm.
    subst (λ s. (s ≡ Done) ⊎ (s ≡ Memory)) (sym c.status.ensures)
    (complete_owed _ _ _ _ _ c.end_of-ending.ensures.owed form sound
    (λ failed. input_calm (c.end_of-ending.ensures.failed failed)) (λ failed. files_calm (c.end_of-ending.ensures.files_failed failed).0))

pub returns-in-Ok-clause-written : goal.returns-in-Ok-clause-written
returns-in-Ok-clause-written g c = λ _.
    let begun = beginning_of g.S.Source g.F.Files c.args.words.now c.args.input.now c.args.files.now in
    (_, _, subst (λ s. Owes g.C.Command.program begun s (document_of c.end_of-ending.result) (report_of c.end_of-ending.result)) (sym c.status.ensures) c.end_of-ending.ensures.owed, document_written g c, report_written g c)

pub returns-in-Ok-clause-cut : goal.returns-in-Ok-clause-cut
returns-in-Ok-clause-cut g c = λ is. absurd (never_write_fault _ _ _ _ _ c.end_of-ending.ensures.owed (sym c.status.ensures ∙ is))

pub returns-in-Ok-clause-out_kept : goal.returns-in-Ok-clause-out_kept
returns-in-Ok-clause-out_kept g c = λ other _. none_kept _ _ (subst (Appends _ _) (no_document _ _ _ _ _ c.end_of-ending.ensures.owed (λ done. other (c.status.ensures ∙ done))) (document_written g c))

pub returns-in-Ok-clause-err_kept : goal.returns-in-Ok-clause-err_kept
returns-in-Ok-clause-err_kept g c = λ is.
    none_kept _ _ (subst (Appends _ _) (document_alone _ _ _ _ _ c.end_of-ending.ensures.owed (subst (λ s. (s ≡ Done) ⊎ (s ≡ Memory)) c.status.ensures is)) (report_written g c))

pub returns-in-Ok-clause-read_fault : goal.returns-in-Ok-clause-read_fault
returns-in-Ok-clause-read_fault g c = λ is. read_owed _ _ _ _ _ c.end_of-ending.ensures.owed (sym c.status.ensures ∙ is)

pub returns-in-Ok-clause-read_count : goal.returns-in-Ok-clause-read_count
returns-in-Ok-clause-read_count g c = λ is. c.end_of-ending.ensures.failed (sym c.status.ensures ∙ is)

pub returns-in-Ok-clause-read_line : goal.returns-in-Ok-clause-read_line
returns-in-Ok-clause-read_line g c = λ is. subst (Appends _ _) (read_line _ _ _ _ _ c.end_of-ending.ensures.owed (sym c.status.ensures ∙ is)) (report_written g c)

pub returns-in-Ok-clause-file_fault : goal.returns-in-Ok-clause-file_fault
returns-in-Ok-clause-file_fault g c = λ is. (c.end_of-ending.ensures.files_failed (sym c.status.ensures ∙ is)).1

pub returns-in-Ok-clause-file_count : goal.returns-in-Ok-clause-file_count
returns-in-Ok-clause-file_count g c = λ is. (c.end_of-ending.ensures.files_failed (sym c.status.ensures ∙ is)).0

pub returns-in-Ok-clause-file_line : goal.returns-in-Ok-clause-file_line
returns-in-Ok-clause-file_line g c = λ is. subst (Appends _ _) (file_line _ _ _ _ _ c.end_of-ending.ensures.owed (sym c.status.ensures ∙ is)) (report_written g c)

pub returns-in-Ok-clause-write_fault : goal.returns-in-Ok-clause-write_fault
returns-in-Ok-clause-write_fault g c = λ is. absurd (never_write_fault _ _ _ _ _ c.end_of-ending.ensures.owed (sym c.status.ensures ∙ is))

pub returns-in-Ok-clause-end : goal.returns-in-Ok-clause-end
returns-in-Ok-clause-end g c = λ is. c.end_of-ending.ensures.end (sym c.status.ensures ∙ is)

pub returns-in-Ok-clause-input_calm : goal.returns-in-Ok-clause-input_calm
returns-in-Ok-clause-input_calm g c = λ other _. c.end_of-ending.ensures.kept (λ fault. other (c.status.ensures ∙ fault))

pub returns-in-Ok-clause-files_calm : goal.returns-in-Ok-clause-files_calm
returns-in-Ok-clause-files_calm g c = λ other _. c.end_of-ending.ensures.files_kept (λ fault. other (c.status.ensures ∙ fault))

pub returns-in-Ok-clause-out_calm : goal.returns-in-Ok-clause-out_calm
returns-in-Ok-clause-out_calm g c = λ _. c.in-Ok.ensures.out_calm

pub returns-in-Ok-clause-err_calm : goal.returns-in-Ok-clause-err_calm
returns-in-Ok-clause-err_calm g c = λ _. c.in-Ok.ensures.err_calm

-- ---- a write or a flush failed

pub returns-clause-done : goal.returns-clause-done
returns-clause-done g c = λ is. absurd (is_not_done is)

pub returns-clause-refused : goal.returns-clause-refused
returns-clause-refused g c = λ kind is. absurd (is_not_refused kind is)

pub returns-clause-usage : goal.returns-clause-usage
returns-clause-usage g c = λ is. absurd (is_not_usage is)

pub returns-clause-usage_line : goal.returns-clause-usage_line
returns-clause-usage_line g c = λ is. absurd (is_not_usage is)

pub returns-clause-only_usage : goal.returns-clause-only_usage
returns-clause-only_usage g c = λ _. inr refl

pub returns-clause-missing : goal.returns-clause-missing
returns-clause-missing g c = λ _ _ _ _. inr (inr refl)

pub returns-clause-unread : goal.returns-clause-unread
returns-clause-unread g c = c.end_of-ending.ensures.unread

pub returns-clause-unread_fault : goal.returns-clause-unread_fault
returns-clause-unread_fault g c = λ is. absurd (is_no_file_fault is)

pub returns-clause-unread_refusal : goal.returns-clause-unread_refusal
returns-clause-unread_refusal g c = λ kind is. absurd (is_not_refused kind is)

pub returns-clause-no_file : goal.returns-clause-no_file
returns-clause-no_file g c = c.end_of-ending.ensures.no_file

pub returns-clause-tells_on : goal.returns-clause-tells_on
returns-clause-tells_on g c = c.end_of-ending.ensures.tells_on

pub returns-clause-same : goal.returns-clause-same
returns-clause-same g c = c.end_of-ending.ensures.same

pub returns-clause-complete : goal.returns-clause-complete
returns-clause-complete g c = λ _ _ _ _ out_calm err_calm. absurd (elim c.in-Err.ensures.cause [ inl out ↦ out_calm out | inr err ↦ err_calm err ])

pub returns-clause-written : goal.returns-clause-written
returns-clause-written g c = λ other. absurd (other refl)

pub returns-clause-cut : goal.returns-clause-cut
returns-clause-cut g c = λ _. (
  _,
  _,
  _,
  c.end_of-ending.ensures.owed,
  c.end_of-ending.ensures.failed,
  λ fault. (c.end_of-ending.ensures.files_failed fault).0,
  subst (AppendsPart _ _) (c.as_bytes-document.ensures.value ∙ c.document.ensures) c.in-Err.ensures.out_part,
  subst (AppendsPart _ _) (c.as_bytes-report.ensures.value ∙ c.report.ensures) c.in-Err.ensures.err_part,
)

pub returns-clause-out_kept : goal.returns-clause-out_kept
returns-clause-out_kept g c = λ _ other. absurd (other refl)

pub returns-clause-err_kept : goal.returns-clause-err_kept
returns-clause-err_kept g c = λ is. absurd (elim is [ inl done ↦ is_not_done done | inr memory ↦ is_not_memory memory ])

pub returns-clause-read_fault : goal.returns-clause-read_fault
returns-clause-read_fault g c = λ is. absurd (is_no_read_fault is)

pub returns-clause-read_count : goal.returns-clause-read_count
returns-clause-read_count g c = λ is. absurd (is_no_read_fault is)

pub returns-clause-read_line : goal.returns-clause-read_line
returns-clause-read_line g c = λ is. absurd (is_no_read_fault is)

pub returns-clause-file_fault : goal.returns-clause-file_fault
returns-clause-file_fault g c = λ is. absurd (is_no_file_fault is)

pub returns-clause-file_count : goal.returns-clause-file_count
returns-clause-file_count g c = λ is. absurd (is_no_file_fault is)

pub returns-clause-file_line : goal.returns-clause-file_line
returns-clause-file_line g c = λ is. absurd (is_no_file_fault is)

pub returns-clause-write_fault : goal.returns-clause-write_fault
returns-clause-write_fault g c = λ _. c.in-Err.ensures.cause

pub returns-clause-end : goal.returns-clause-end
returns-clause-end g c = λ is. absurd (is_not_done is)

pub returns-clause-input_calm : goal.returns-clause-input_calm
returns-clause-input_calm g c = λ _ other. absurd (other refl)

pub returns-clause-files_calm : goal.returns-clause-files_calm
returns-clause-files_calm g c = λ _ other. absurd (other refl)

pub returns-clause-out_calm : goal.returns-clause-out_calm
returns-clause-out_calm g c = λ other. absurd (other refl)

pub returns-clause-err_calm : goal.returns-clause-err_calm
returns-clause-err_calm g c = λ other. absurd (other refl)
