-- What follows from what a run owes.
use Rattle.std.proofs.Common.{ℕ, List, [], ◌≡◌, ◌⊎◌, inl, inr, refl, subst, codes}
use Rattle.diag.specs.Refusal.{RefusesNone}
use Rattle.diag.specs.declared.error.DeriveError.TheVariants as error
use Rattle.diag.specs.declared.kind.Kind.{Kind}
use Rattle.reporting.specs.Beginning.{Beginning}
use Rattle.reporting.specs.Owed.{Owes}
use Rattle.reporting.specs.Program.{Program, AreOfForm, IsAnswered, IsRefusedRun, IsReportOf}
use Rattle.reporting.specs.declared.status.Status.{Status}
use Rattle.reporting.specs.declared.status.Status.TheVariants.{Done, Refused, Usage, ReadFault, WriteFault, Memory, FileFault}

module _ (program : Program) (begun : Beginning) (status : Status) (text report : List ℕ) (owed : Owes program begun status text report) where
  owed_as : (other : Status) → status ≡ other → Owes program begun other text report
  owed_as other is = subst (λ s. Owes program begun s text report) is owed

  pub answer_owed : status ≡ Done → IsAnswered program begun text
  unfolding Owes
  answer_owed is = (owed_as Done is).0

  pub refused_owed : (kind : Kind) → status ≡ Refused kind → IsReportOf (IsRefusedRun program begun) kind report
  unfolding Owes
  refused_owed kind is = (owed_as (Refused kind) is).0

  pub usage_owed : status ≡ Usage → ¬ (AreOfForm program begun.words)
  unfolding Owes
  usage_owed is = (owed_as Usage is).0

  pub usage_line : status ≡ Usage → report ≡ program.usage
  unfolding Owes
  usage_line is = (owed_as Usage is).2

  pub read_owed : status ≡ ReadFault → program.asks_for_input begun
  unfolding Owes
  read_owed is = (owed_as ReadFault is).0

  pub read_line : status ≡ ReadFault → report ≡ codes "read fault\n"
  unfolding Owes
  read_line is = (owed_as ReadFault is).2

  pub file_line : status ≡ FileFault → report ≡ codes "file fault\n"
  unfolding Owes
  file_line is = (owed_as FileFault is).2

  pub document_alone : (status ≡ Done) ⊎ (status ≡ Memory) → report ≡ []
  unfolding Owes
  document_alone (inl is) = (owed_as Done is).1
  document_alone (inr is) = (owed_as Memory is).2

  pub never_write_fault : status ≡ WriteFault → ⊥
  unfolding Owes
  never_write_fault is = owed_as WriteFault is

-- a document is owed by `Done` alone
pub no_document : (program : Program) (begun : Beginning) (status : Status) (text report : List ℕ) → Owes program begun status text report → (status ≡ Done → ⊥) → text ≡ []
unfolding Owes
no_document program begun Done text report owed other = absurd (other refl)
no_document program begun (Refused kind) text report owed other = owed.1
no_document program begun Usage text report owed other = owed.1
no_document program begun ReadFault text report owed other = owed.1
no_document program begun WriteFault text report owed other = absurd owed
no_document program begun Memory text report owed other = owed.1
no_document program begun FileFault text report owed other = owed.1

-- what has a form and is not refused is answered
pub complete_owed : (program : Program) (begun : Beginning) (status : Status) (text report : List ℕ) → Owes program begun status text report → AreOfForm program begun.words → RefusesNone (IsRefusedRun program begun)
    → (status ≡ ReadFault → ⊥) → (status ≡ FileFault → ⊥) → (status ≡ Done) ⊎ (status ≡ Memory)
unfolding Owes
complete_owed program begun Done text report owed form sound calm file_calm = inl refl
complete_owed program begun (Refused kind) text report owed form sound calm file_calm = absurd (sound (error.Refused owed.0.diagnostics) owed.0.cause)
complete_owed program begun Usage text report owed form sound calm file_calm = absurd (owed.0 form)
complete_owed program begun ReadFault text report owed form sound calm file_calm = absurd (calm refl)
complete_owed program begun WriteFault text report owed form sound calm file_calm = absurd owed
complete_owed program begun Memory text report owed form sound calm file_calm = inr refl
complete_owed program begun FileFault text report owed form sound calm file_calm = absurd (file_calm refl)

-- ---- a fault of writing is no other status

pub is_not_done : WriteFault ≡ Done → ⊥
is_not_done is = cc

pub is_not_refused : (kind : Kind) → WriteFault ≡ Refused kind → ⊥
is_not_refused kind is = cc

pub is_not_usage : WriteFault ≡ Usage → ⊥
is_not_usage is = cc

pub is_no_read_fault : WriteFault ≡ ReadFault → ⊥
is_no_read_fault is = cc

pub is_no_file_fault : WriteFault ≡ FileFault → ⊥
is_no_file_fault is = cc

pub is_not_memory : WriteFault ≡ Memory → ⊥
is_not_memory is = cc
