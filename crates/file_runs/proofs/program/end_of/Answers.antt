use Rattle.std.proofs.Common.{◌∙◌, inl, inr, refl, sym, ap, subst}
use Rattle.reporting.specs.Beginning.{beginning_of}
use Rattle.file_runs.specs.Contents.{Begins}
use Rattle.file_runs.specs.Owed.{IsEnding, status_of}
use Rattle.file_runs.specs.Words.{IsOfWholeInput}
use Rattle.file_runs.proofs.Consequences.{one_request}
use Rattle.file_runs.proofs.Ended.{words_end, words_name_none, words_fault_none, status_is}
use Rattle.file_runs.proofs.program.end_of.Goals as goal

pub returns-in-Ok-clause-owed : goal.returns-in-Ok-clause-owed
returns-in-Ok-clause-owed g c =
    let begun = beginning_of g.S.Source g.F.Files c.args.words.now c.args.input.now c.args.files.now in
    let begins : Begins g.S.Source g.F.Files c.in-Ok.request c.args.input.now c.args.files.now begun = record { asked = c.in-Ok.ensures.asked; tells = refl; held = λ path. refl; left = refl } in
    subst (IsEnding begun) (sym c.ending_of.ensures) (c.answer.ensures.owed begun begins)

pub returns-in-Ok-clause-end : goal.returns-in-Ok-clause-end
returns-in-Ok-clause-end g c = λ done named.
    let of = subst (λ r. IsOfWholeInput r _) (one_request c.args.words.now named.0 c.in-Ok.request named.1 c.in-Ok.ensures.asked) named.2 in
    c.answer.ensures.end (status_is c.answer.result ∙ ap status_of (sym c.ending_of.ensures) ∙ done) of

pub returns-in-Err-clause-owed : goal.returns-in-Err-clause-owed
returns-in-Err-clause-owed g c =
    words_end (beginning_of g.S.Source g.F.Files c.args.words.now c.args.input.now c.args.files.now) _ c.in-Err.ensures.ending

pub returns-in-Err-clause-end : goal.returns-in-Err-clause-end
returns-in-Err-clause-end g c = λ done named. absurd (words_name_none c.args.words.now _ c.in-Err.ensures.ending done (named.0, named.1, named.2.0))

pub returns-in-Err-clause-failed : goal.returns-in-Err-clause-failed
returns-in-Err-clause-failed g c = λ fault. absurd (words_fault_none c.args.words.now _ c.in-Err.ensures.ending (inl fault))

pub returns-in-Err-clause-files_failed : goal.returns-in-Err-clause-files_failed
returns-in-Err-clause-files_failed g c = λ fault. absurd (words_fault_none c.args.words.now _ c.in-Err.ensures.ending (inr fault))

pub returns-in-Ok-clause-unread_config : goal.returns-in-Ok-clause-unread_config
returns-in-Ok-clause-unread_config g c = λ none. c.answer.ensures.unread_config (λ config said. none config (c.in-Ok.request, c.in-Ok.ensures.asked, said))

pub returns-in-Ok-clause-unread_files : goal.returns-in-Ok-clause-unread_files
returns-in-Ok-clause-unread_files g c = λ none. absurd (none c.in-Ok.request c.in-Ok.ensures.asked)
