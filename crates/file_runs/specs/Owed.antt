-- What a run owes.
use Rattle.std.specs.Prelude.{◌≡◌, ◌⊎◌, ℕ, List, [], true, IsTrue, IsSome, Option, Some, codes, Result, Ok, Err}
use Rattle.files.specs.declared.cause.Cause.{Cause}
use Rattle.streams.specs.Faults.{CountsFault}
use Rattle.schema_core.specs.Document.{Entry}
use Rattle.telling.specs.Printable.{CommandsNothing}
use Rattle.telling.specs.Told.{all_told}
use Rattle.telling.specs.declared.told.Told.{Told}
use Rattle.file_derivation.specs.Outcomes.{AreDerivedFrom, AreTold, AreSound}
use Rattle.reporting.specs.Beginning.{Beginning}
use Rattle.file_runs.specs.Given.{Given, IsGiven, RefusesOption}
use Rattle.file_runs.specs.Reports.{misuse_text, fault_line, answer_text}
use Rattle.file_runs.specs.Shown.{Wanted, IsShown, IsUnwritten}
use Rattle.file_runs.specs.Words.{Ask, AskFor, AreMisused, NameInput, NamePath}
use Rattle.file_runs.specs.declared.document.Written.{Written}
use Rattle.file_runs.specs.declared.ending.Ending.{Ending}
use Rattle.file_runs.specs.declared.ending.Ending.TheVariants as endings
use Rattle.file_runs.specs.declared.request.Misuse.{Misuse}
use Rattle.file_runs.specs.declared.request.Question.{Question}
use Rattle.file_runs.specs.declared.request.Request.{Request}
use Rattle.file_runs.specs.declared.status.Status.{Status}
use Rattle.file_runs.specs.declared.status.Status.TheVariants.{Done, Refused, Usage, ReadFault, WriteFault, Memory, FileFault}

-- ---- documents and answers

-- what is asked for of what is given
abbrev pub wanted_of : Given → Wanted
wanted_of given = record { request = given.request; openapi = given.openapi; check = given.check }

-- The text is what is written of the components of what is selected of the files that are given, and the report tells the
-- warnings; by `--strict` there are none.
pub record IsDocument (begun : Beginning) (text report : List ℕ) : Type 0 where
  pub given : Given
  pub is_given : IsGiven begun given
  pub components : List Entry
  pub warnings : List Told
  pub derived : AreDerivedFrom given.request.selection given.config given.files components warnings
  pub calm : given.request.strict ≡ true → warnings ≡ []
  pub shown : IsShown given.request given.openapi given.check components text
  pub report_is : report ≡ all_told warnings

-- the words ask a question, which the text answers
abbrev pub IsAnswer : Beginning → List ℕ → Type 0
IsAnswer begun text = (question : Question) × Ask begun.words question × (text ≡ answer_text question)

abbrev pub IsDone : Beginning → (text report : List ℕ) → Type 0
IsDone begun text report = IsDocument begun text report ⊎ (IsAnswer begun text × (report ≡ []))

-- ---- refusals

-- The words name a configuration, and the file there says none, or a document, and the file there is none, which the report tells.
pub record IsMisconfigured (begun : Beginning) (report : List ℕ) : Type 0 where
  pub request : Request
  pub asked : AskFor begun.words request
  pub refused : RefusesOption begun.tells begun.held request report

-- There is no document of the files that are given, and the report tells why.
pub record AreRefusedFiles (begun : Beginning) (report : List ℕ) : Type 0 where
  pub given : Given
  pub is_given : IsGiven begun given
  pub told : List Told
  pub are_told : AreTold given.request.selection given.config given.files told
  pub report_is : report ≡ all_told told

-- Nothing is written of what is derived, and the report tells why.
pub record AreUnwritten (begun : Beginning) (report : List ℕ) : Type 0 where
  pub given : Given
  pub is_given : IsGiven begun given
  pub components : List Entry
  pub warnings : List Told
  pub derived : AreDerivedFrom given.request.selection given.config given.files components warnings
  pub why : IsUnwritten (wanted_of given) components warnings report

abbrev pub IsRefused : Beginning → List ℕ → Type 0
IsRefused begun report = IsMisconfigured begun report ⊎ AreRefusedFiles begun report ⊎ AreUnwritten begun report

-- ---- what is owed

-- the number that the program ends with
abbrev pub number_of : Status → ℕ
number_of Done = 0
number_of Refused = 1
number_of Usage = 2
number_of ReadFault = 3
number_of WriteFault = 4
number_of Memory = 5
number_of FileFault = 6

-- With this status a run that begins so owes these bytes to `out` and to `err`.
unfoldable pub Owed : Beginning → Status → List ℕ → List ℕ → Type 0
Owed begun Done out err = IsDone begun out err
Owed begun Refused out err = IsRefused begun err × (out ≡ [])
Owed begun Usage out err = ((misuse : Misuse) × AreMisused begun.words misuse × (err ≡ misuse_text misuse)) × (out ≡ [])
Owed begun FileFault out err = ((path : List ℕ) × (cause : Cause) × NamePath begun.words path × (err ≡ fault_line path cause)) × (out ≡ [])
Owed begun ReadFault out err = NameInput begun.words × (out ≡ []) × (err ≡ codes "-: cannot be read\n")
Owed begun Memory out err = (out ≡ []) × (err ≡ [])
Owed begun WriteFault out err = ⊥

-- ---- the ending of a run, before it is written

abbrev pub status_of : Ending → Status
status_of (endings.Done text report) = Done
status_of (endings.Refused report) = Refused
status_of (endings.Usage report) = Usage
status_of endings.ReadFault = ReadFault
status_of endings.Memory = Memory
status_of (endings.FileFault report) = FileFault

abbrev pub document_of : Ending → List ℕ
document_of (endings.Done text report) = text
document_of (endings.Refused report) = []
document_of (endings.Usage report) = []
document_of endings.ReadFault = []
document_of endings.Memory = []
document_of (endings.FileFault report) = []

abbrev pub report_of : Ending → List ℕ
report_of (endings.Done text report) = report
report_of (endings.Refused report) = report
report_of (endings.Usage report) = report
report_of endings.ReadFault = codes "-: cannot be read\n"
report_of endings.Memory = []
report_of (endings.FileFault report) = report

-- with this document, or with this ending
abbrev pub ending_of : Result Written Ending → Ending
ending_of (Ok written) = endings.Done written.document written.report
ending_of (Err ending) = ending

-- with the answer to the question
abbrev pub answered_by : Question → Ending
answered_by question = endings.Done (answer_text question) []

-- the status of a run that ends with the error, where there is one
abbrev pub status_at : {A : Type 0} → Result A Ending → Status
status_at (Ok x) = Done
status_at (Err ending) = status_of ending

-- what is told of the error, where there is one
abbrev pub report_at : {A : Type 0} → Result A Ending → List ℕ
report_at (Ok x) = []
report_at (Err ending) = report_of ending

-- the file at the path could not be read, for the cause, which the report tells; a fault is counted, and files keep the path
abbrev pub FailsAt : (before after : ℕ) (failed : Option (List ℕ)) → Cause → (path report : List ℕ) → Type 0
FailsAt before after failed cause path report = CountsFault before after × (failed ≡ Some path) × (report ≡ fault_line path cause)

-- a run that begins so may end so
abbrev pub IsEnding : Beginning → Ending → Type 0
IsEnding begun ending = Owed begun (status_of ending) (document_of ending) (report_of ending)

abbrev pub IsEndingAt : Beginning → Result Written Ending → Type 0
IsEndingAt begun result = IsEnding begun (ending_of result)

-- ---- what is sound

-- The run is told what it is given: what the files hold, and what the input has left, where the words name them.
pub record IsTold (begun : Beginning) : Type 0 where
  pub held : (path : List ℕ) → NamePath begun.words path → IsTrue begun.tells
  pub left : NameInput begun.words → IsSome begun.left

-- what a run is given, of which nothing is refused, and all is written
pub record IsSound (begun : Beginning) : Type 0 where
  pub given : Given
  pub is_given : IsGiven begun given
  pub sound : AreSound given.request.selection given.config given.files
  pub is_written : (components : List Entry) (warnings : List Told) → AreDerivedFrom given.request.selection given.config given.files components warnings
      → (report : List ℕ) → ¬ (IsUnwritten (wanted_of given) components warnings report)

-- The law: where a run is told what it is given, and that is sound, nothing is refused.
abbrev pub SoundRunsAreNotRefused : Type 0
SoundRunsAreNotRefused = (begun : Beginning) (report : List ℕ) → IsTold begun → IsSound begun → ¬ (IsRefused begun report)

-- ---- what a terminal may show

-- The law: what a run owes to `err` commands nothing, whatever its files, its words and its documents hold.
abbrev pub ReportsCommandNothing : Type 0
ReportsCommandNothing = (begun : Beginning) (status : Status) (text report : List ℕ) → Owed begun status text report → CommandsNothing report
