use Rattle.std.proofs.Common.{◌⊎◌, ℕ, List, Some, IsTrue, inl, inr}
use Rattle.reporting.specs.Beginning.{Beginning}
use Rattle.reporting.specs.Program.{IsRefusedGiven, IsReportOf}
use Rattle.diag.specs.declared.kind.Kind.{Kind}
use Rattle.configuration_json.specs.Said.{is_of_configuration}
use Rattle.schema_gen.specs.Owed.{schema_gen}
use Rattle.schema_gen.specs.Words.{derive}
use Rattle.schema_gen.proofs.Consequences.{described, other_kind, bad_config_cause, only_bad_owed, sample_owed}
use Rattle.schema_gen.proofs.Told.{of_derive, of_number, sound_run}
use Rattle.schema_gen.proofs.program.run.Goals as goal

-- what holds where no source is refused, or where one is refused as a configuration
without_source : (begun : Beginning) (kind : Kind) → IsTrue (is_of_configuration kind) → (P : Type 0) → P ⊎ ((line : List ℕ) × IsReportOf (IsRefusedGiven schema_gen begun) kind line) → P
without_source begun kind own P (inl holds) = holds
without_source begun kind own P (inr (line, reported)) = absurd (other_kind begun kind own line reported)

pub returns-clause-done : goal.returns-clause-done
returns-clause-done g c = λ path derives is.
    let done = c.run_command.ensures.done is in described c.configurations_are_said.ensures c.resolved_is_meant.ensures _ done.0 _ _ (of_derive _ path derives _ done.1) done.2

pub returns-clause-derived : goal.returns-clause-derived
returns-clause-derived g c = λ path derives is. let done = c.run_command.ensures.done is in (done.0, of_derive _ path derives _ done.1, done.2)

pub returns-clause-sampled : goal.returns-clause-sampled
returns-clause-sampled g c = λ many samples is. let done = c.run_command.ensures.done is in (done.0, of_number _ many samples _ done.1, done.2)

pub returns-clause-unrefused : goal.returns-clause-unrefused
returns-clause-unrefused g c = λ many samples. sample_owed _ many samples _ (λ whole. let written = c.run_command.ensures.written whole in (written.0, written.1, written.2))

pub returns-clause-bad_config : goal.returns-clause-bad_config
returns-clause-bad_config g c = λ kind own is. let refused = c.run_command.ensures.refused kind is in bad_config_cause c.refused_texts_have_faults.ensures _ kind own refused.0 refused.1

pub returns-clause-only_bad_config : goal.returns-clause-only_bad_config
returns-clause-only_bad_config g c = λ told file.
    only_bad_owed c.refused_texts_have_faults.ensures _ told file _ (λ whole. let written = c.run_command.ensures.written whole in (written.0, written.1, written.2))

pub returns-clause-missing : goal.returns-clause-missing
returns-clause-missing g c = λ path form missing. c.run_command.ensures.missing path (derive (Some path), form) form missing

pub returns-clause-unread : goal.returns-clause-unread
returns-clause-unread g c = λ none. c.run_command.ensures.unread (λ configured. none configured.0 configured.1)

pub returns-clause-unread_config : goal.returns-clause-unread_config
returns-clause-unread_config g c = λ why.
    elim why [
      | inl (kind, own, is) ↦ without_source _ kind own _ (c.run_command.ensures.unread_refusal kind is)
      | inr fault ↦ c.run_command.ensures.unread_fault fault
    ]

pub returns-clause-complete : goal.returns-clause-complete
returns-clause-complete g c = λ given is told sound.
    c.run_command.ensures.complete (derive is.config.0, is.config.1) (sound_run _ c.sound_is_not_refused.ensures c.configurations_are_one.ensures.of_text given is told sound)

pub returns-clause-end : goal.returns-clause-end
returns-clause-end g c = λ path derives is.
    let done = c.run_command.ensures.done is in let document = of_derive _ path derives _ done.1 in c.run_command.ensures.end is (document.0.config, document.1.config)
