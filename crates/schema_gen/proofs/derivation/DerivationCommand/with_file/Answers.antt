use Rattle.std.proofs.Common.{ℕ, List, Some, inl, inr}
use Rattle.std.proofs.lemmas.Result.{err_from_is_err_and}
use Rattle.diag.specs.Refusal.{IsErrorFor}
use Rattle.diag.specs.declared.error.DeriveError.{DeriveError}
use Rattle.configuration.specs.Configuration.{Configuration}
use Rattle.configuration_json.specs.Form.{IsConfigurationText, IsRefusedText}
use Rattle.reporting.specs.Beginning.{Beginning}
use Rattle.reporting.specs.Command.{HasFile}
use Rattle.reporting.specs.Program.{IsRefusedRun}
use Rattle.schema_gen.specs.Owed.{schema_gen}
use Rattle.schema_gen.specs.Words.{Asked}
use Rattle.schema_gen.proofs.derivation.DerivationCommand.with_file.Goals as goal

-- a file that says no configuration refuses the run
refused_file : (request : Asked) (bytes : List ℕ) (e : DeriveError) → IsErrorFor (λ e. IsRefusedText bytes e × ((c : Configuration) → ¬ (IsConfigurationText bytes c))) e
    → IsErrorFor (λ e. (begun : Beginning) → HasFile schema_gen begun request bytes → IsRefusedRun schema_gen begun e) e
refused_file request bytes e (inl memory) = inl memory
refused_file request bytes e (inr (refused, none)) = inr (λ begun file. inl (file.path, bytes, file.named, file.held, (none, refused)))

pub returns-in_err-from_slice-clause-refused : goal.returns-in_err-from_slice-clause-refused
returns-in_err-from_slice-clause-refused c =
    let p = err_from_is_err_and c.from_residual.result c.from_residual.ensures.1 in
    rw (p.1, p.2) (refused_file _ _ _ c.in_err-from_slice.ensures.refused)

pub returns-clause-rest : goal.returns-clause-rest
returns-clause-rest c = λ begun file. (Some file.path, file.named, (_, file.held, c.in_ok-from_slice.ensures.configured))
