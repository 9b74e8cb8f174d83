-- What is read on the way.
use Rattle.std.specs.Prelude.{◌≡◌, ◌<◌, ◌≤◌, ◌⊎◌, ℕ, List, ◌∷◌, [], ◌++◌, length, Bool, true, false, Option, Some, None}
use Rattle.std.specs.Io.KnownBytes.{IsAtEnd}
use Rattle.diag.specs.declared.error.DeriveError.{DeriveError}
use Rattle.diag.specs.declared.error.DeriveError.TheVariants as error
use Rattle.files.specs.Held.{IsHeld}
use Rattle.files.specs.declared.cause.Cause.{Cause}
use Rattle.files.specs.declared.files.Files.{Ghosts as AnyFiles}
use Rattle.streams.specs.Told.{IsAll}
use Rattle.streams.specs.declared.source.Source.{Ghosts as AnySource}
use Rattle.telling.specs.Told.{told_text, all_told}
use Rattle.telling.specs.declared.told.Told.{Told}
use Rattle.configuration.specs.Configuration.{Configuration}
use Rattle.configuration_json.specs.Parts.{IsFaultyPart}
use Rattle.configuration_json.specs.declared.part.ConfigPart.{ConfigPart}
use Rattle.gathering.specs.Files.{FileOf, Gathers, most_bytes}
use Rattle.gathering.specs.declared.gathered.Gathered.{Gathered}
use Rattle.schema_core.specs.Document.{Entry}
use Rattle.file_derivation.specs.Outcomes.{AreDerivedFrom, AreTold}
use Rattle.file_derivation.specs.Warned.{AreFirst}
use Rattle.file_derivation.specs.declared.warned.Warnings.{Warnings}
use Rattle.reporting.specs.Beginning.{Beginning}
use Rattle.file_runs.specs.Given.{RefusesConfig, RefusesDocument, RefusesOption, told_config}
use Rattle.file_runs.specs.Reports.{misuse_text, fault_line, answer_text}
use Rattle.file_runs.specs.Shown.{Wanted, IsUnwritten}
use Rattle.file_runs.specs.Words.{is_input, Ask, AskFor, AreMisused, IsOfInput, IsOfOption, IsOfPath}
use Rattle.file_runs.specs.declared.ending.Ending.{Ending}
use Rattle.file_runs.specs.declared.ending.Ending.TheVariants.{Done, Refused, Usage, ReadFault, Memory, FileFault}
use Rattle.file_runs.specs.declared.request.Misuse.{Misuse}
use Rattle.file_runs.specs.declared.request.Question.{Question}
use Rattle.file_runs.specs.declared.request.Request.{Request}

-- of a file with this text all was read, or that it is longer than so many bytes
abbrev pub IsReadOf : ℕ → List ℕ → Option (List ℕ) → Type 0
IsReadOf most text (Some bytes) = (text ≡ bytes) × (length text ≤ most)
IsReadOf most text None = most < length text

-- what an input had was read, and it is at its end, or it had more than a file may have
abbrev pub AreContents : (had has : Option (List ℕ)) → Option (List ℕ) → Type 0
AreContents had has read = (text : List ℕ) × IsAll had text × IsReadOf most_bytes text read × (length text ≤ most_bytes → IsAtEnd has)

-- of the input that is what it had, and it is at its end unless that is too long; of a file what is held
abbrev pub IsTextBy : Bool → (tells : Bool) → Option (List ℕ) → (had has : Option (List ℕ)) → List ℕ → Type 0
IsTextBy true tells held had has text = IsAll had text × (length text ≤ most_bytes → IsAtEnd has)
IsTextBy false tells held had has text = IsHeld tells held text

abbrev pub IsTextAt : (tells : Bool) (held : List ℕ → Option (List ℕ)) (had has : Option (List ℕ)) → List ℕ → List ℕ → Type 0
IsTextAt tells held had has path text = IsTextBy (is_input path) tells (held path) had has text

-- one more file of this name and this text is gathered
abbrev pub Adds : Gathered → Gathered → List ℕ → List ℕ → Type 0
Adds before after name text = (files : List FileOf) → Gathers files before → Gathers (files ++ record { name = name; bytes = text } ∷ []) after

-- the ending tells that the file at the path cannot be read, or that memory ran out
abbrev pub TellsFile : List ℕ → Ending → Type 0
TellsFile path (FileFault report) = (cause : Cause) × (report ≡ fault_line path cause)
TellsFile path Memory = Unit {0}
TellsFile path _ = ⊥

-- it answers the question of the words, or tells how they are misused, or that memory ran out
abbrev pub EndsWords : List (List ℕ) → Ending → Type 0
EndsWords words (Done text report) = (question : Question) × Ask words question × (text ≡ answer_text question) × (report ≡ [])
EndsWords words (Usage report) = (misuse : Misuse) × AreMisused words misuse × (report ≡ misuse_text misuse)
EndsWords words Memory = Unit {0}
EndsWords words _ = ⊥

-- that the input cannot be read, or that memory ran out
abbrev pub TellsInput : Ending → Type 0
TellsInput ReadFault = Unit {0}
TellsInput Memory = Unit {0}
TellsInput _ = ⊥

-- that the file at the path cannot be read, or says no configuration, or that memory ran out
abbrev pub TellsConfig : (tells : Bool) → Option (List ℕ) → List ℕ → Ending → Type 0
TellsConfig tells held path (Refused report) = RefusesConfig tells held path report
TellsConfig tells held path ending = TellsFile path ending

-- that the file at the path cannot be read, or is no document, or that memory ran out
abbrev pub TellsDocument : (tells : Bool) → Option (List ℕ) → List ℕ → Ending → Type 0
TellsDocument tells held path (Refused report) = RefusesDocument tells held path report
TellsDocument tells held path ending = TellsFile path ending

-- what ends it where the files of its options are read: one is refused or cannot be read, or memory ran out
abbrev pub EndsOptions : (tells : Bool) (held : List ℕ → Option (List ℕ)) → Request → Ending → Type 0
EndsOptions tells held r (Refused report) = RefusesOption tells held r report
EndsOptions tells held r (FileFault report) = (path : List ℕ) × (cause : Cause) × IsOfOption r path × (report ≡ fault_line path cause)
EndsOptions tells held r Memory = Unit {0}
EndsOptions tells held r _ = ⊥

-- what ends a run of the request before anything is derived: a file of an option is refused, the input or a file cannot be read,
-- or memory ran out
abbrev pub EndsReading : (tells : Bool) (held : List ℕ → Option (List ℕ)) → Request → Ending → Type 0
EndsReading tells held r (Refused report) = RefusesOption tells held r report
EndsReading tells held r (FileFault report) = (path : List ℕ) × (cause : Cause) × IsOfPath r path × (report ≡ fault_line path cause)
EndsReading tells held r ReadFault = IsOfInput r
EndsReading tells held r Memory = Unit {0}
EndsReading tells held r _ = ⊥

-- nothing is written of the components, which the report tells, or memory ran out
abbrev pub EndsWriting : Wanted → List Entry → Warnings → Ending → Type 0
EndsWriting w components warnings (Refused report) = (all : List Told) → AreFirst all warnings → IsUnwritten w components all report
EndsWriting w components warnings Memory = Unit {0}
EndsWriting w components warnings _ = ⊥

-- the files are refused, or nothing is written of their components, which the report tells
abbrev pub RefusesFiles : Wanted → Configuration → List FileOf → List ℕ → Type 0
RefusesFiles w c files report =
    ((told : List Told) × AreTold w.request.selection c files told × (report ≡ all_told told))
    ⊎ ((components : List Entry) × (warnings : List Told) × AreDerivedFrom w.request.selection c files components warnings × IsUnwritten w components warnings report)

-- what ends it where there is no document of the files that are gathered: they are refused, or memory ran out
abbrev pub EndsDerivation : Wanted → Configuration → Gathered → Ending → Type 0
EndsDerivation w c gathered (Refused report) = (files : List FileOf) → Gathers files gathered → RefusesFiles w c files report
EndsDerivation w c gathered Memory = Unit {0}
EndsDerivation w c gathered _ = ⊥

-- the error as the fault of the file at the path, with a part that is at fault, or that memory ran out
abbrev pub TellsError : (IsFaulty : Option ConfigPart → Type 0) → List ℕ → DeriveError → Ending → Type 0
TellsError IsFaulty path (error.Refused refusal) (Refused report) = (part : Option ConfigPart) × IsFaulty part × (report ≡ told_text (told_config path refusal part))
TellsError IsFaulty path e Memory = Unit {0}
TellsError IsFaulty path e _ = ⊥

-- the part is at fault in a file of which this was read
abbrev pub IsFaultyRead : ℕ → Option (List ℕ) → Option ConfigPart → Type 0
IsFaultyRead most read part = (text : List ℕ) → IsReadOf most text read → IsFaultyPart text part

-- A run begins with words that ask for this, with this input and with these files.
pub record Begins {S F : Type 0} (source : AnySource S) (any : AnyFiles F) (request : Request) (input : S) (files : F) (begun : Beginning) : Type 0 where
  pub asked : AskFor begun.words request
  pub tells : begun.tells ≡ any.tells files
  pub held : (path : List ℕ) → begun.held path ≡ any.held files path
  pub left : begun.left ≡ source.left input
