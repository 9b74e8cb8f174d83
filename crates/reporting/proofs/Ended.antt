-- Endings that tell an error.
use Rattle.std.proofs.Common.{◌≡◌, ℕ, List, inl, inr, refl, sym, ap, subst}
use Rattle.diag.specs.Diagnostics.{HasFirst}
use Rattle.diag.specs.Refusal.{IsErrorFor}
use Rattle.diag.specs.declared.diagnostics.DiangosticsInner.{DiangosticsInner}
use Rattle.diag.specs.declared.error.DeriveError.{DeriveError}
use Rattle.diag.specs.declared.error.DeriveError.TheVariants as error
use Rattle.diag.specs.declared.kind.Kind.{Kind}
use Rattle.reporting.specs.Beginning.{Beginning}
use Rattle.reporting.specs.Endings.{status_of, Reports, ReportsError}
use Rattle.reporting.specs.Owed.{Owes, IsEnding}
use Rattle.reporting.specs.Program.{Program, AreOfForm, IsRefusedGiven, IsRefusedRun, IsReportOf}
use Rattle.reporting.specs.declared.ending.Ending.{Ending}
use Rattle.reporting.specs.declared.ending.Ending.TheVariants.{Done, Refused, Usage, ReadFault, Memory, FileFault}
use Rattle.reporting.specs.declared.status.Status.{Status}
use Rattle.reporting.specs.declared.status.Status.TheVariants as status

module _ (program : Program) (begun : Beginning) (form : AreOfForm program begun.words) where
  pub memory_ending : IsEnding program begun Memory
  unfolding Owes
  memory_ending = (form, refl, refl)

  -- a run that is refused may end as the diagnostics are reported
  diagnostics_ending : (ds : List DiangosticsInner) (ending : Ending) → Reports ds ending → IsRefusedRun program begun (error.Refused ds) → IsEnding program begun ending
  unfolding Owes
  diagnostics_ending ds (Done text) is cause = absurd is
  diagnostics_ending ds (Refused kind line) is cause = (record { diagnostics = ds; cause = cause; kind_is = is.0; line_is = is.1 }, refl)
  diagnostics_ending ds (Usage line) is cause = absurd is
  diagnostics_ending ds ReadFault is cause = absurd is
  diagnostics_ending ds Memory is cause = (form, refl, refl)
  diagnostics_ending ds FileFault is cause = absurd is

  -- and as the error is told
  pub error_ending : (e : DeriveError) (ending : Ending) → ReportsError e ending → IsErrorFor (IsRefusedRun program begun) e → IsEnding program begun ending
  error_ending (error.Refused ds) ending is (inl memory) = cc
  error_ending (error.Refused ds) ending is (inr cause) = diagnostics_ending ds ending is cause
  error_ending error.Memory ending is why = subst (IsEnding program begun) (sym is) memory_ending

-- the kind of a refusal that tells an error is that of its report
same_kind : (kind other : Kind) → ◌≡◌ {A = Status} (status.Refused kind) (status.Refused other) → kind ≡ other
same_kind kind other e = cc

module _ (refuses : DeriveError → Type 0) (kind : Kind) where
  reported_diagnostics : (ds : List DiangosticsInner) (ending : Ending) → Reports ds ending → refuses (error.Refused ds) → status_of ending ≡ status.Refused kind → (line : List ℕ) × IsReportOf refuses kind line
  reported_diagnostics ds (Done text) is cause so = absurd is
  reported_diagnostics ds (Refused told line) is cause so = (
    line,
    record { diagnostics = ds; cause = cause; kind_is = subst (λ k. HasFirst ds (λ d. d.kind ≡ k)) (same_kind told kind so) is.0; line_is = is.1 },
  )
  reported_diagnostics ds (Usage line) is cause so = absurd is
  reported_diagnostics ds ReadFault is cause so = absurd is
  reported_diagnostics ds Memory is cause so = cc
  reported_diagnostics ds FileFault is cause so = absurd is

  pub reported_error : (e : DeriveError) (ending : Ending) → ReportsError e ending → IsErrorFor refuses e → status_of ending ≡ status.Refused kind → (line : List ℕ) × IsReportOf refuses kind line
  reported_error (error.Refused ds) ending is (inl memory) so = cc
  reported_error (error.Refused ds) ending is (inr cause) so = reported_diagnostics ds ending is cause so
  reported_error error.Memory ending is why so = let memory : status_of ending ≡ status.Memory = ap status_of is in cc

-- an error for one cause is one for each that follows
pub error_for : (P Q : DeriveError → Type 0) (e : DeriveError) → (P e → Q e) → IsErrorFor P e → IsErrorFor Q e
error_for P Q e follows (inl memory) = inl memory
error_for P Q e follows (inr cause) = inr (follows cause)

module _ (program : Program) (begun : Beginning) (given : program.Given) (is : program.is_given begun given) (e : DeriveError) (ending : Ending) (tells : ReportsError e ending) (why : IsErrorFor (program.refuses given) e) where
  -- a run that is given what is refused may end so
  pub given_ending : AreOfForm program begun.words → IsEnding program begun ending
  given_ending form = error_ending program begun form e ending tells (error_for (program.refuses given) (IsRefusedRun program begun) e (λ refused. inr (given, is, refused)) why)

  pub given_report : (kind : Kind) → status_of ending ≡ status.Refused kind → (line : List ℕ) × IsReportOf (IsRefusedGiven program begun) kind line
  given_report kind so =
      reported_error (IsRefusedGiven program begun) kind e ending tells (error_for (program.refuses given) (IsRefusedGiven program begun) e (λ refused. (given, is, refused)) why) so
