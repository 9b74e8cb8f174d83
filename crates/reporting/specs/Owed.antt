-- What a run owes.
use Rattle.std.specs.Prelude.{◌≡◌, ℕ, List, [], codes}
use Rattle.reporting.specs.Beginning.{Beginning}
use Rattle.reporting.specs.Endings.{status_of, document_of, report_of}
use Rattle.reporting.specs.Program.{Program, AreOfForm, IsAnswered, IsRefusedRun, IsReportOf}
use Rattle.reporting.specs.declared.ending.Ending.{Ending}
use Rattle.reporting.specs.declared.status.Status.{Status}
use Rattle.reporting.specs.declared.status.Status.TheVariants.{Done, Refused, Usage, ReadFault, WriteFault, Memory, FileFault}

-- With this status a run of the program that begins so owes these bytes to `out` and to `err`.
unfoldable pub Owes : Program → Beginning → Status → List ℕ → List ℕ → Type 0
Owes program begun Done out err = IsAnswered program begun out × (err ≡ [])
Owes program begun (Refused kind) out err =
    IsReportOf (IsRefusedRun program begun) kind err × (out ≡ [])
Owes program begun Usage out err =
    ¬ (AreOfForm program begun.words) × (out ≡ []) × (err ≡ program.usage)
Owes program begun FileFault out err =
    ((path : List ℕ) × program.name_path begun.words path) × (out ≡ [])
    × (err ≡ codes "file fault\n")
Owes program begun ReadFault out err =
    program.asks_for_input begun × (out ≡ []) × (err ≡ codes "read fault\n")
Owes program begun Memory out err = AreOfForm program begun.words × (out ≡ []) × (err ≡ [])
Owes program begun WriteFault out err = ⊥

-- a run of the program that begins so may end so
abbrev pub IsEnding : Program → Beginning → Ending → Type 0
IsEnding program begun ending =
    Owes program begun (status_of ending) (document_of ending) (report_of ending)
