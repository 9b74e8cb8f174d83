-- What schema_gen is to its runs: what they are told, report and owe.
use Rattle.std.specs.Prelude.{ℕ, List, Some, codes}
use Rattle.diag.specs.declared.error.DeriveError.{DeriveError}
use Rattle.diag.specs.declared.kind.Kind.{Kind}
use Rattle.configuration.specs.Configuration.{Configuration}
use Rattle.reporting.specs.Beginning.{Beginning}
use Rattle.reporting.specs.Owed.{Owes}
use Rattle.reporting.specs.Program.{Program, IsRefusedRun, IsReportOf, IsToldTo}
use Rattle.reporting.specs.declared.status.Status.{Status}
use Rattle.schema_gen.specs.Derived.{IsDocumentOf}
use Rattle.schema_gen.specs.Given.{IsConfigured, IsRefusedFile, IsTask, Task, of_sample, of_source}
use Rattle.schema_gen.specs.Refusals.{IsRefusedSource}
use Rattle.schema_gen.specs.Sampled.{IsSampleLine}
use Rattle.schema_gen.specs.Words.{Asked, AskFor, IsDerive}

-- the text answers: it is that of the document of a source, or the line of a sample
abbrev pub Answers : Task → List ℕ → Type 0
Answers (of_source given) text = IsDocumentOf given.config given.text text
Answers (of_sample many) text = IsSampleLine many text

-- the error refuses a source; no sample is refused
abbrev pub Refuses : Task → DeriveError → Type 0
Refuses (of_source given) e = IsRefusedSource given.config given.text e
Refuses (of_sample many) e = ⊥

-- Words may name the path of a configuration, and a file there that says none is refused. A source
-- is given with the configuration, and the text of its document answers; a sample is given by how
-- many declarations it has, and its line answers.
abbrev pub schema_gen : Program
schema_gen = record {
  usage = codes "usage: schema_gen derive [--config PATH]\n   or: schema_gen sample N\n";
  Request = Asked;
  ask_for = AskFor;
  name_path = λ words path. IsDerive words (Some path);
  asks_for_input = λ begun. (c : Configuration) × IsConfigured begun c;
  Given = Task;
  is_given = IsTask;
  answers = Answers;
  refuses = Refuses;
  refuses_file = IsRefusedFile;
}

-- the run is told what it is given
abbrev pub IsTold : Beginning → Type 0
IsTold begun = IsToldTo schema_gen begun

-- there is a refusal of the run with this kind, whose report is the line
abbrev pub IsReported : Beginning → Kind → List ℕ → Type 0
IsReported begun kind line = IsReportOf (IsRefusedRun schema_gen begun) kind line

-- with this status a run that begins so owes these bytes to `out` and to `err`
abbrev pub Owed : Beginning → Status → List ℕ → List ℕ → Type 0
Owed begun status out err = Owes schema_gen begun status out err
