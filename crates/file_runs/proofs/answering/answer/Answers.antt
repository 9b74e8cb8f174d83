use Rattle.std.proofs.Common.{option_map}
use Rattle.std.proofs.lemmas.Result.{err_from_is_err_and}
use Rattle.file_runs.specs.Given.{Given, named_view}
use Rattle.file_runs.specs.Shown.{wanted}
use Rattle.file_runs.proofs.Ended.{reading_ends, not_done, is_given, derived_ends, derived_at_end, no_file_fault, no_read_fault}
use Rattle.file_runs.proofs.answering.answer.Goals as goal

pub returns-in_err-reading-clause-owed : goal.returns-in_err-reading-clause-owed
returns-in_err-reading-clause-owed g c =
    let p = err_from_is_err_and c.from_residual.result c.from_residual.ensures.1 in
    rw (p.1, p.2) (λ begun begins. reading_ends begun c.args.request.now begins.asked (g.F.Files.tells c.args.files.now) (g.F.Files.held c.args.files.now) begins.tells begins.held _ c.in_err-reading.ensures.ending)

pub returns-in_err-reading-clause-end : goal.returns-in_err-reading-clause-end
returns-in_err-reading-clause-end g c =
    let p = err_from_is_err_and c.from_residual.result c.from_residual.ensures.1 in
    rw (p.1, p.2) (λ done. absurd (not_done _ _ c.args.request.now _ c.in_err-reading.ensures.ending done))

pub returns-clause-owed : goal.returns-clause-owed
returns-clause-owed g c = λ begun begins.
    let r = c.args.request.now in
    let made = c.in_ok-reading.ensures.gathered in
    let options = c.in_ok-reading.reading.options in
    let openapi = option_map named_view options.openapi in
    let check = option_map named_view options.check in
    let given : Given = record { request = r; config = options.config; openapi = openapi; check = check; files = made.0 } in
    let is = is_given begun r begins.asked (g.F.Files.tells c.args.files.now) (g.F.Files.held c.args.files.now) begins.tells begins.held _ _ options.config openapi check made.0 begins.left
    c.in_ok-reading.ensures.said c.in_ok-reading.ensures.openapi c.in_ok-reading.ensures.check made.1 in
    derived_ends begun given is c.in_ok-reading.reading.gathered made.2 c.document_text.result c.document_text.ensures.document c.document_text.ensures.ending

pub returns-clause-end : goal.returns-clause-end
returns-clause-end g c =
    let made = c.in_ok-reading.ensures.gathered in
    derived_at_end (g.F.Files.tells c.args.files.now) (g.F.Files.held c.args.files.now) _ _ c.args.request.now.files made.0 made.1 (wanted c.args.request.now c.in_ok-reading.reading.options.openapi c.in_ok-reading.reading.options.check) c.in_ok-reading.reading.options.config c.in_ok-reading.reading.gathered made.2 c.document_text.result c.document_text.ensures.document c.document_text.ensures.ending

pub returns-clause-kept : goal.returns-clause-kept
returns-clause-kept g c = λ other. c.in_ok-reading.ensures.kept (λ e. cc)

pub returns-clause-failed : goal.returns-clause-failed
returns-clause-failed g c = λ fault. absurd (no_read_fault (wanted c.args.request.now c.in_ok-reading.reading.options.openapi c.in_ok-reading.reading.options.check) c.in_ok-reading.reading.options.config c.in_ok-reading.reading.gathered c.document_text.result c.document_text.ensures.ending fault)

pub returns-clause-files_kept : goal.returns-clause-files_kept
returns-clause-files_kept g c = λ other another. c.in_ok-reading.ensures.files_kept (λ e. cc) (λ e. cc)

pub returns-clause-files_failed : goal.returns-clause-files_failed
returns-clause-files_failed g c = λ fault. absurd (no_file_fault (wanted c.args.request.now c.in_ok-reading.reading.options.openapi c.in_ok-reading.reading.options.check) c.in_ok-reading.reading.options.config c.in_ok-reading.reading.gathered c.document_text.result c.document_text.ensures.ending fault)
