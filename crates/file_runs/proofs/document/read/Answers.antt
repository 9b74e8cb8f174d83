use Rattle.std.proofs.Common.{◌≡◌, ℕ, List, true, codes, subst, inl, inr}
use Rattle.std.proofs.lemmas.Result.{err_from_is_err_and}
use Rattle.texts.specs.Names.{is_in}
use Rattle.file_runs.specs.Contents.{IsTextAt}
use Rattle.file_runs.specs.Given.{AreFilesAt}
use Rattle.streams.specs.Faults.{CountsFault}
use Rattle.file_runs.specs.Words.{is_input}
use Rattle.file_runs.proofs.Ended.{options_end, input_ends, file_ends}
use Rattle.file_runs.proofs.Paths.{each_other, held_back}
use Rattle.file_runs.proofs.document.read.Goals as goal

pub returns-in_err-options-clause-ending : goal.returns-in_err-options-clause-ending
returns-in_err-options-clause-ending g c =
    let p = err_from_is_err_and c.from_residual.result c.from_residual.ensures.1 in
    rw (p.1, p.2) (options_end (g.F.Files.tells c.args.files.now) (g.F.Files.held c.args.files.now) c.args.request.now _ c.in_err-options.ensures.ending)

pub returns-in_err-options-clause-files_failed : goal.returns-in_err-options-clause-files_failed
returns-in_err-options-clause-files_failed g c =
    let p = err_from_is_err_and c.from_residual.result c.from_residual.ensures.1 in
    rw (p.1, p.2) (λ fault. let failed = c.in_err-options.ensures.failed fault in (failed.0, inl failed.1, failed.2))

pub returns-in_err-contents-clause-ending : goal.returns-in_err-contents-clause-ending
returns-in_err-contents-clause-ending g c =
    let p = err_from_is_err_and c.from_residual-in_err-contents.result c.from_residual-in_err-contents.ensures.1 in
    let told = c.in_err-contents.ensures in
    rw (p.1, p.2) (input_ends (g.F.Files.tells c.args.files.now) (g.F.Files.held c.args.files.now) c.args.request.now _ told.named told.ending)

pub returns-in_err-gathered-clause-ending : goal.returns-in_err-gathered-clause-ending
returns-in_err-gathered-clause-ending g c =
    let p = err_from_is_err_and c.from_residual-in_err-gathered.result c.from_residual-in_err-gathered.ensures.1 in
    let told = c.in_err-gathered.ensures.ending in
    rw (p.1, p.2) (
    file_ends (g.F.Files.tells c.args.files.now) (g.F.Files.held c.args.files.now) c.args.request.now _ told.0
    (λ fault. let failed = told.2 fault in inr (subst (λ ps. is_in told.0 ps ≡ true) c.as_slice.ensures failed.0, failed.1)) told.1
    )

pub returns-in_err-gathered-clause-files_failed : goal.returns-in_err-gathered-clause-files_failed
returns-in_err-gathered-clause-files_failed g c =
    let p = err_from_is_err_and c.from_residual-in_err-gathered.result c.from_residual-in_err-gathered.ensures.1 in
    let told = c.in_err-gathered.ensures.ending in
    let kept = c.in_ok-options.ensures.kept (λ e. cc) (λ e. cc) in
    rw (p.1, p.2) (λ fault.
    let failed = told.2 fault in (
      told.0,
      inr (subst (λ ps. is_in told.0 ps ≡ true) c.as_slice.ensures failed.0, failed.1),
      (subst (λ n. CountsFault n (g.F.Files.faults c.gather.new.files)) kept failed.2.0, failed.2.1, failed.2.2),
    ))

pub returns-clause-gathered : goal.returns-clause-gathered
returns-clause-gathered g c =
    let had = g.S.Source.left c.args.input.now in
    let has = g.S.Source.left c.contents_of.new.input in
    let Has = IsTextAt (g.F.Files.tells c.options_at.new.files) (g.F.Files.held c.options_at.new.files) had has in
    let Also = IsTextAt (g.F.Files.tells c.args.files.now) (g.F.Files.held c.args.files.now) had has in
    let made = c.in_ok-gathered.ensures.gathered had has (λ is. c.in_ok-contents.ensures.contents (subst (λ ps. is_in (codes "-") ps ≡ true) c.as_slice.ensures is)) in
    let back : (path text : List ℕ) → Has path text → Also path text = λ path text is. held_back (is_input path) _ _ _ _ had has text c.in_ok-options.ensures.tells_on (c.in_ok-options.ensures.same path) is in
    (made.0, each_other Has Also back c.args.request.now.files made.0 (subst (λ ps. AreFilesAt Has ps made.0) c.as_slice.ensures made.1), made.2)

pub returns-in_err-contents-clause-unread_config : goal.returns-in_err-contents-clause-unread_config
returns-in_err-contents-clause-unread_config g c = λ none. absurd (none _ c.in_ok-options.ensures.said)

pub returns-in_err-gathered-clause-unread_config : goal.returns-in_err-gathered-clause-unread_config
returns-in_err-gathered-clause-unread_config g c = λ none. absurd (none _ c.in_ok-options.ensures.said)

pub returns-clause-unread_config : goal.returns-clause-unread_config
returns-clause-unread_config g c = λ none. absurd (none _ c.in_ok-options.ensures.said)
