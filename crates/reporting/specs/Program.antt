-- What a program is to its runs.
use Rattle.std.specs.Prelude.{◌≡◌, ◌⊎◌, ℕ, List, IsTrue, IsSome}
use Rattle.diag.specs.Diagnostics.{HasFirst}
use Rattle.diag.specs.declared.diagnostics.DiangosticsInner.{DiangosticsInner}
use Rattle.diag.specs.declared.error.DeriveError.{DeriveError}
use Rattle.diag.specs.declared.error.DeriveError.TheVariants as error
use Rattle.diag.specs.declared.kind.Kind.{Kind}
use Rattle.reporting.specs.Beginning.{Beginning}
use Rattle.reporting.specs.Report.{refusal_line}

-- What words ask of a program, what its runs are given by them, and what answers or refuses that.
pub record Program : Type 1 where
  -- how to use it
  pub usage : List ℕ
  -- what words may ask for, and which words do
  pub Request : Type 0
  pub ask_for : List (List ℕ) → Request → Type 0
  -- the words name the file at the path
  pub name_path : List (List ℕ) → List ℕ → Type 0
  -- a run that begins so is to read its input
  pub asks_for_input : Beginning → Type 0
  -- what a run that begins so is given
  pub Given : Type 0
  pub is_given : Beginning → Given → Type 0
  -- the text answers what is given
  pub answers : Given → List ℕ → Type 0
  -- the error refuses what is given
  pub refuses : Given → DeriveError → Type 0
  -- the error refuses the file, and then nothing is given
  pub refuses_file : Beginning → DeriveError → Type 0

-- the words are of one of the forms
abbrev pub AreOfForm : Program → List (List ℕ) → Type 0
AreOfForm program words = (request : program.Request) × program.ask_for words request

-- The run is told what it is given: what the input has left, and what the files hold, where it reads
-- them.
pub record IsToldTo (program : Program) (begun : Beginning) : Type 0 where
  pub left : program.asks_for_input begun → IsSome begun.left
  pub held : (path : List ℕ) → program.name_path begun.words path → IsTrue begun.tells

-- the text answers what the run is given
abbrev pub IsAnswered : Program → Beginning → List ℕ → Type 0
IsAnswered program begun text =
    (given : program.Given) × program.is_given begun given × program.answers given text

-- the error refuses what the run is given
abbrev pub IsRefusedGiven : Program → Beginning → DeriveError → Type 0
IsRefusedGiven program begun e =
    (given : program.Given) × program.is_given begun given × program.refuses given e

-- the error refuses the file that the words name, or else what the run is given
abbrev pub IsRefusedRun : Program → Beginning → DeriveError → Type 0
IsRefusedRun program begun e = program.refuses_file begun e ⊎ IsRefusedGiven program begun e

-- There is a refusal of this kind, whose report is the line.
pub record IsReportOf (refuses : DeriveError → Type 0) (kind : Kind) (line : List ℕ) : Type 0 where
  pub diagnostics : List DiangosticsInner
  pub cause : refuses (error.Refused diagnostics)
  pub kind_is : HasFirst diagnostics (λ d. d.kind ≡ kind)
  pub line_is : line ≡ refusal_line diagnostics
