-- What a run is given by its words, its files and its input.
use Rattle.std.specs.Prelude.{◌≡◌, ◌≤◌, ◌⊎◌, ℕ, List, [], ◌∷◌, length, Bool, true, false, Option, Some, None, option_map}
use Rattle.std.specs.Option.{option_or}
use Rattle.diag.specs.declared.diagnostics.DiangosticsInner.{DiangosticsInner}
use Rattle.diag.specs.declared.error.DeriveError.TheVariants.{Refused}
use Rattle.files.specs.Held.{IsHeld}
use Rattle.streams.specs.Told.{IsAll}
use Rattle.configuration.specs.Configuration.{Configuration}
use Rattle.configuration_json.specs.Form.{IsConfigurationText, IsRefusedText}
use Rattle.configuration_json.specs.Parts.{IsFaultyPart, part_help}
use Rattle.configuration_json.specs.Said.{IsSaidBy, SayNone}
use Rattle.configuration_json.specs.declared.part.ConfigPart.{ConfigPart}
use Rattle.telling.specs.Told.{told_text}
use Rattle.telling.specs.declared.told.Told.{Told}
use Rattle.serde_json.specs.Data.{Data}
use Rattle.documents.specs.Text.{IsJson}
use Rattle.gathering.specs.Files.{FileOf, most_bytes}
use Rattle.gathering.specs.Telling.{told_unplaced}
use Rattle.reporting.specs.Beginning.{Beginning}
use Rattle.serde_json.specs.View.{view}
use Rattle.file_runs.specs.Reports.{document_line}
use Rattle.file_runs.specs.Words.{is_input, IsOfDocument, AskFor}
use Rattle.file_runs.specs.declared.named.NamedDocument.{NamedDocument}
use Rattle.file_runs.specs.declared.request.Request.{Request}

-- each path, in order, is that of one of the files, of whose bytes this holds
abbrev pub AreFilesAt : (Has : List ℕ → List ℕ → Type 0) → List (List ℕ) → List FileOf → Type 0
AreFilesAt Has [] [] = Unit {0}
AreFilesAt Has [] (f ∷ files) = ⊥
AreFilesAt Has (path ∷ paths) [] = ⊥
AreFilesAt Has (path ∷ paths) (f ∷ files) = (f.name ≡ path) × Has path f.bytes × AreFilesAt Has paths files

-- of the input all that it has left, and of a file what is held at its path, where that is told
abbrev pub HasBytesBy : Bool → Beginning → List ℕ → List ℕ → Type 0
HasBytesBy true begun path bytes = IsAll begun.left bytes
HasBytesBy false begun path bytes = IsHeld begun.tells (begun.held path) bytes

abbrev pub HasBytes : Beginning → List ℕ → List ℕ → Type 0
HasBytes begun path bytes = HasBytesBy (is_input path) begun path bytes

-- what is told of the refusal of the configuration at the path, of which this part is at fault
abbrev pub told_config : List ℕ → List DiangosticsInner → Option ConfigPart → Told
told_config path refusal part =
    let told : Told = told_unplaced path refusal in record told { help = option_or (option_map part_help part) told.help }

-- The file at the path says no configuration, which the report tells, with the part that is at fault.
pub record RefusesConfig (tells : Bool) (held : Option (List ℕ)) (path report : List ℕ) : Type 0 where
  pub bytes : List ℕ
  pub is_held : IsHeld tells held bytes
  pub none : SayNone bytes
  pub refusal : List DiangosticsInner
  pub refused : IsRefusedText bytes (Refused refusal)
  pub part : Option ConfigPart
  pub faulty : IsFaultyPart bytes part
  pub report_is : report ≡ told_text (told_config path refusal part)

-- ---- documents that options name

-- bytes that may be read, and are this value in JSON
abbrev pub IsDocumentText : List ℕ → Data → Type 0
IsDocumentText bytes value = (length bytes ≤ most_bytes) × IsJson bytes value

-- a path, and the value that the file there is in JSON
abbrev pub Named : Type 0
Named = List ℕ × Data

-- what the program's values are
abbrev pub named_view : NamedDocument → Named
named_view document = (document.path, view document.value)

-- this is the document at the path; where no path is named, there is none
abbrev pub IsDocumentAt : (tells : Bool) → (List ℕ → Option (List ℕ)) → (path : Option (List ℕ)) → Option Named → Type 0
IsDocumentAt tells held path None = path ≡ None
IsDocumentAt tells held path (Some named) = (path ≡ Some named.0) × (bytes : List ℕ) × IsHeld tells (held named.0) bytes × IsDocumentText bytes named.1

-- the file at the path is no JSON that may be read, which the report tells
pub record RefusesDocument (tells : Bool) (held : Option (List ℕ)) (path report : List ℕ) : Type 0 where
  pub bytes : List ℕ
  pub is_held : IsHeld tells held bytes
  pub none : (value : Data) → ¬ (IsDocumentText bytes value)
  pub report_is : report ≡ document_line path

-- the report tells of the file at a path that it says no configuration, or is no document
abbrev pub RefusesOption : (tells : Bool) (held : List ℕ → Option (List ℕ)) → Request → List ℕ → Type 0
RefusesOption tells held r report =
    ((path : List ℕ) × (r.config ≡ Some path) × RefusesConfig tells (held path) path report)
    ⊎ ((path : List ℕ) × IsOfDocument r path × RefusesDocument tells (held path) path report)

-- ---- all that is given

-- what is asked for, the configuration, the documents that options name, and the files with their bytes
pub record Given : Type 0 where
  pub request : Request
  pub config : Configuration
  pub openapi : Option Named
  pub check : Option Named
  pub files : List FileOf

-- The words ask for it; the configuration is that of the path that they name, or the empty one; the documents are those at the
-- paths that they name, and the files are those that they name, in order.
pub record IsGiven (begun : Beginning) (given : Given) : Type 0 where
  pub asked : AskFor begun.words given.request
  pub config : IsSaidBy IsConfigurationText begun.tells begun.held given.request.config given.config
  pub openapi : IsDocumentAt begun.tells begun.held given.request.openapi given.openapi
  pub check : IsDocumentAt begun.tells begun.held given.request.check given.check
  pub files : AreFilesAt (HasBytes begun) given.request.files given.files

-- the words name a file that says this configuration, or none, and it is the empty one
abbrev pub IsConfiguredBy : Beginning → Configuration → Type 0
IsConfiguredBy begun c = (request : Request) × AskFor begun.words request × IsSaidBy IsConfigurationText begun.tells begun.held request.config c
