-- How the words, the file and the input of a run are taken one after the other.
use Rattle.std.specs.Prelude.{ℕ, List}
use Rattle.files.specs.Held.{IsHeld}
use Rattle.reporting.specs.Beginning.{Beginning}
use Rattle.reporting.specs.Program.{Program, IsAnswered}
use Rattle.reporting.specs.declared.rest.Rest.{Rest}
use Rattle.reporting.specs.declared.rest.Rest.TheVariants.{Work, Answer}

-- The words of the run ask for this, and these are the bytes of the file that they name.
pub record HasFile (program : Program) (begun : Beginning) (request : program.Request) (bytes : List ℕ) : Type 0 where
  pub asked : program.ask_for begun.words request
  pub path : List ℕ
  pub named : program.name_path begun.words path
  pub held : IsHeld begun.tells (begun.held path) bytes

-- The words of the run ask for this, and name no file.
pub record HasNoFile (program : Program) (begun : Beginning) (request : program.Request) : Type 0 where
  pub asked : program.ask_for begun.words request
  pub none : (path : List ℕ) → ¬ (program.name_path begun.words path)

-- what is left to be done of a run that begins so: this work with its input, or nothing but to write
-- the text, and then the input is not asked for
abbrev pub IsRest : {W : Type 0} → Program → (W → Beginning → Type 0) → Beginning → Rest W → Type 0
IsRest program is_work begun (Work work) = is_work work begun
IsRest program is_work begun (Answer text) =
    ¬ (program.asks_for_input begun) × IsAnswered program begun text
