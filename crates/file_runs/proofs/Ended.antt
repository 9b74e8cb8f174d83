-- How a run ends by what it reads and derives.
use Rattle.std.proofs.Common.{◌≡◌, ◌≤◌, ◌⊎◌, ℕ, List, [], ◌∷◌, length, Bool, true, false, ◌||◌, Option, Some, None, Result, Ok, Err, IfOk, IfErr, bytes_eq, codes, inl, inr, refl, sym, subst}
use Rattle.std.proofs.lemmas.Bool.{false≢true}
use Rattle.std.proofs.lemmas.Slice.Eq.{bytes_eq-Decides}
use Rattle.std.specs.Io.KnownBytes.{IsAtEnd}
use Rattle.files.specs.Held.{IsHeld}
use Rattle.streams.specs.Told.{IsAll}
use Rattle.schema_core.specs.Document.{Entry}
use Rattle.telling.specs.declared.told.Told.{Told}
use Rattle.configuration.specs.Configuration.{Configuration}
use Rattle.configuration_json.specs.Form.{IsConfigurationText}
use Rattle.configuration_json.specs.Said.{IsSaidBy}
use Rattle.prepare.specs.declared.file_items.FileItem.{FileItem}
use Rattle.texts.specs.Names.{is_in}
use Rattle.gathering.specs.Files.{FileOf, AreGathered, has_items, Gathers, most_bytes}
use Rattle.gathering.specs.declared.gathered.Gathered.{Gathered}
use Rattle.file_derivation.specs.Outcomes.{AreDerivedFrom}
use Rattle.file_derivation.specs.Warned.{AreFirst}
use Rattle.file_derivation.specs.declared.warned.Warnings.{Warnings}
use Rattle.reporting.specs.Beginning.{Beginning}
use Rattle.file_runs.specs.Contents.{IsTextBy, IsTextAt, TellsFile, TellsInput, TellsConfig, TellsDocument, EndsOptions, EndsReading, RefusesFiles, EndsWriting, EndsDerivation, EndsWords}
use Rattle.file_runs.specs.Given.{Given, IsGiven, Named, IsDocumentAt, AreFilesAt, HasBytes, RefusesConfig, RefusesDocument, RefusesOption}
use Rattle.file_runs.specs.Owed.{Owed, IsEnding, IsEndingAt, wanted_of, status_of, status_at, ending_of}
use Rattle.file_runs.specs.Shown.{Wanted, IsWritten}
use Rattle.file_runs.specs.Words.{is_input, AskFor, IsOfInput, IsOfDocument, IsOfPath, NameInput}
use Rattle.file_runs.specs.declared.document.Written.{Written}
use Rattle.file_runs.specs.declared.ending.Ending.{Ending}
use Rattle.file_runs.specs.declared.ending.Ending.TheVariants.{Done, Refused, Usage, ReadFault, Memory, FileFault}
use Rattle.file_runs.specs.declared.request.Request.{Request}
use Rattle.file_runs.specs.declared.status.Status.TheVariants as status
use Rattle.file_runs.proofs.Consequences.{no_request}
use Rattle.file_runs.proofs.OptionFiles.{document_back}
use Rattle.file_runs.proofs.Paths.{each_other, begun_with}

module _ (begun : Beginning) (r : Request) (asked : AskFor begun.words r) (tells : Bool) (held : List ℕ → Option (List ℕ)) (same : begun.tells ≡ tells) (holds : (path : List ℕ) → begun.held path ≡ held path) where
  -- what a file of an option is refused for is what the run is refused for
  refused_back : (report : List ℕ) → RefusesOption tells held r report → RefusesOption begun.tells begun.held r report
  refused_back report (inl (path, named, refuses)) =
      inl (path, named, subst (λ o. RefusesConfig begun.tells o path report) (sym (holds path)) (subst (λ b. RefusesConfig b (held path) path report) (sym same) refuses))
  refused_back report (inr (path, of, refuses)) =
      inr (path, of, subst (λ o. RefusesDocument begun.tells o path report) (sym (holds path)) (subst (λ b. RefusesDocument b (held path) path report) (sym same) refuses))

  -- a run may end where its reading ends
  pub reading_ends : (ending : Ending) → EndsReading tells held r ending → IsEnding begun ending
  unfolding Owed
  reading_ends (Refused report) refuses = (inl (record { request = r; asked = asked; refused = refused_back report refuses }), refl)
  reading_ends (FileFault report) (path, cause, of, is) = ((path, cause, (r, asked, of), is), refl)
  reading_ends ReadFault of = ((r, asked, of), refl, refl)
  reading_ends Memory of = (refl, refl)
  reading_ends (Done text beside) of = absurd of
  reading_ends (Usage report) of = absurd of

  -- what is read is what it is given
  said_of : (path : Option (List ℕ)) (c : Configuration) → IsSaidBy IsConfigurationText tells held path c → IsSaidBy IsConfigurationText begun.tells begun.held path c
  said_of None c is = is
  said_of (Some path) c (bytes, at, says) =
      (bytes, subst (λ o. IsHeld begun.tells o bytes) (sym (holds path)) (subst (λ b. IsHeld b (held path) bytes) (sym same) at), says)

  pub is_given : (had has : Option (List ℕ)) (c : Configuration) (openapi check : Option Named) (of : List FileOf) → begun.left ≡ had
      → IsSaidBy IsConfigurationText tells held r.config c → IsDocumentAt tells held r.openapi openapi → IsDocumentAt tells held r.check check → AreFilesAt (IsTextAt tells held had has) r.files of
      → IsGiven begun (record { request = r; config = c; openapi = openapi; check = check; files = of })
  is_given had has c openapi check of left said api old are = record {
    asked = asked;
    config = said_of r.config c said;
    openapi = document_back tells begun.tells held begun.held (sym same) (λ path. sym (holds path)) r.openapi openapi api;
    check = document_back tells begun.tells held begun.held (sym same) (λ path. sym (holds path)) r.check check old;
    files = each_other (IsTextAt tells held had has) (HasBytes begun) (λ path text is. begun_with begun (is_input path) tells (held path) had has path text same (holds path) left is) r.files of are;
  }

-- this is written of what is selected of the files
abbrev pub MakesDocument : Wanted → Configuration → List FileOf → Written → Type 0
MakesDocument w c files written =
    (components : List Entry) × (warnings : List Told) × AreDerivedFrom w.request.selection c files components warnings × IsWritten w components warnings written

module _ (begun : Beginning) (given : Given) (is : IsGiven begun given) where
  refused_ends : (report : List ℕ) → RefusesFiles (wanted_of given) given.config given.files report → IsEnding begun (Refused report)
  unfolding Owed
  refused_ends report (inl (told, are_told, report_is)) =
      (inr (inl (record { given = given; is_given = is; told = told; are_told = are_told; report_is = report_is })), refl)
  refused_ends report (inr (components, warnings, derived, why)) =
      (inr (inr (record { given = given; is_given = is; components = components; warnings = warnings; derived = derived; why = why })), refl)

  -- a run that is given this may end where nothing is derived of it, and with its document
  pub derivation_ends : (gathered : Gathered) (ending : Ending) → Gathers given.files gathered → EndsDerivation (wanted_of given) given.config gathered ending → IsEnding begun ending
  unfolding Owed
  derivation_ends gathered (Refused report) gathers ends = refused_ends report (ends given.files gathers)
  derivation_ends gathered Memory gathers ends = (refl, refl)
  derivation_ends gathered (Done text beside) gathers ends = absurd ends
  derivation_ends gathered (Usage report) gathers ends = absurd ends
  derivation_ends gathered ReadFault gathers ends = absurd ends
  derivation_ends gathered (FileFault report) gathers ends = absurd ends

  pub document_ends : (written : Written) → MakesDocument (wanted_of given) given.config given.files written → IsEnding begun (Done written.document written.report)
  unfolding Owed
  document_ends written (components, warnings, derived, made) =
      inl (record { given = given; is_given = is; components = components; warnings = warnings; derived = derived; calm = made.calm; shown = made.shown; report_is = made.report_is })

-- the path of the input is one of the paths behind another path
behind_other : (path : List ℕ) (paths : List (List ℕ)) → is_input path ≡ false → is_in (codes "-") (path ∷ paths) ≡ true → is_in (codes "-") paths ≡ true
behind_other path paths other is = by (bytes_eq (codes "-") path) refl is
  where
    by : (b : Bool) → bytes_eq (codes "-") path ≡ b → b || is_in (codes "-") paths ≡ true → is_in (codes "-") paths ≡ true
    by true e h =
        let same : codes "-" ≡ path = (bytes_eq-Decides (codes "-") path).0 e in
        absurd (false≢true (sym (subst (λ v. is_input v ≡ false) (sym same) other)))
    by false e h = h

-- one of the files
abbrev pub IsFileIn : List FileOf → FileOf → Type 0
IsFileIn [] f = ⊥
IsFileIn (g ∷ files) f = (g ≡ f) ⊎ IsFileIn files f

-- where no file is told of, none is too long
none_long : (n : ℕ) (files : List FileOf) (items : List FileItem) → AreGathered n files items [] → (f : FileOf) → IsFileIn files f → length f.bytes ≤ most_bytes
none_long n [] items gathered f k = absurd k
none_long n (g ∷ files) items (has_items h more) f (inl same) = subst (λ (v : FileOf). length v.bytes ≤ most_bytes) same h.short
none_long n (g ∷ files) items (has_items h more) f (inr k) = none_long _ files _ more f k

-- the input that is read is at its end where it is not too long
input_at_end : (tells : Bool) (held : List ℕ → Option (List ℕ)) (had has : Option (List ℕ)) (paths : List (List ℕ)) (files : List FileOf) → AreFilesAt (IsTextAt tells held had has) paths files
    → ((f : FileOf) → IsFileIn files f → IsAll had f.bytes → length f.bytes ≤ most_bytes) → is_in (codes "-") paths ≡ true → IsAtEnd has
input_at_end tells held had has [] files are short is = absurd (false≢true is)
input_at_end tells held had has (path ∷ paths) [] are short is = absurd are
input_at_end tells held had has (path ∷ paths) (f ∷ files) (named, text, are) short is =
    by (is_input path) refl text (λ rest. input_at_end tells held had has paths files are (λ g k. short g (inr k)) rest)
  where
    by : (b : Bool) → is_input path ≡ b → IsTextBy b tells (held path) had has f.bytes → (is_in (codes "-") paths ≡ true → IsAtEnd has) → IsAtEnd has
    by true e read others = read.1 (short f (inl refl) read.0)
    by false e read others = others (behind_other path paths e is)

module _ (tells : Bool) (held : List ℕ → Option (List ℕ)) (r : Request) where
  -- the reading of options ends with the configuration, and with a document that an option names
  pub config_ends : (ending : Ending) (path : List ℕ) → r.config ≡ Some path → TellsConfig tells (held path) path ending → EndsOptions tells held r ending
  config_ends (Refused report) path named ends = inl (path, named, ends)
  config_ends (FileFault report) path named (cause, is) = (path, cause, inl named, is)
  config_ends Memory path named ends = tt
  config_ends (Done text beside) path named ends = absurd ends
  config_ends (Usage report) path named ends = absurd ends
  config_ends ReadFault path named ends = absurd ends

  pub named_ends : (ending : Ending) (path : List ℕ) → IsOfDocument r path → TellsDocument tells (held path) path ending → EndsOptions tells held r ending
  named_ends (Refused report) path of ends = inr (path, of, ends)
  named_ends (FileFault report) path of (cause, is) = (path, cause, inr of, is)
  named_ends Memory path of ends = tt
  named_ends (Done text beside) path of ends = absurd ends
  named_ends (Usage report) path of ends = absurd ends
  named_ends ReadFault path of ends = absurd ends

  -- reading ends with that of options, with the input, and with a file
  pub options_end : (ending : Ending) → EndsOptions tells held r ending → EndsReading tells held r ending
  options_end (Refused report) refused = refused
  options_end (FileFault report) (path, cause, of, is) = (path, cause, inl of, is)
  options_end Memory ends = tt
  options_end (Done text beside) ends = absurd ends
  options_end (Usage report) ends = absurd ends
  options_end ReadFault ends = absurd ends

  pub input_ends : (ending : Ending) → IsOfInput r → TellsInput ending → EndsReading tells held r ending
  input_ends ReadFault of ends = of
  input_ends Memory of ends = tt
  input_ends (Done text beside) of ends = absurd ends
  input_ends (Refused report) of ends = absurd ends
  input_ends (Usage report) of ends = absurd ends
  input_ends (FileFault report) of ends = absurd ends

  pub file_ends : (ending : Ending) (path : List ℕ) → (status_of ending ≡ status.FileFault → IsOfPath r path) → TellsFile path ending → EndsReading tells held r ending
  file_ends (FileFault report) path of (cause, is) = (path, cause, of refl, is)
  file_ends Memory path of ends = tt
  file_ends (Done text beside) path of ends = absurd ends
  file_ends (Refused report) path of ends = absurd ends
  file_ends (Usage report) path of ends = absurd ends
  file_ends ReadFault path of ends = absurd ends

-- what is derived of files that are gathered
abbrev pub DerivesText : Wanted → Configuration → Gathered → Written → Type 0
DerivesText w c gathered written = (files : List FileOf) → Gathers files gathered → MakesDocument w c files written

module _ (w : Wanted) (c : Configuration) (gathered : Gathered) where
  -- a derivation ends with its text, with a refusal or for want of memory, and no fault is counted
  pub no_file_fault : (r : Result Written Ending) → IfErr r (EndsDerivation w c gathered) → status_at r ≡ status.FileFault → ⊥
  no_file_fault (Ok written) ends is = cc
  no_file_fault (Err (FileFault report)) ends is = ends
  no_file_fault (Err (Done text beside)) ends is = ends
  no_file_fault (Err (Refused report)) ends is = cc
  no_file_fault (Err (Usage report)) ends is = cc
  no_file_fault (Err ReadFault) ends is = cc
  no_file_fault (Err Memory) ends is = cc

  pub no_read_fault : (r : Result Written Ending) → IfErr r (EndsDerivation w c gathered) → status_at r ≡ status.ReadFault → ⊥
  no_read_fault (Ok written) ends is = cc
  no_read_fault (Err ReadFault) ends is = ends
  no_read_fault (Err (Done text beside)) ends is = ends
  no_read_fault (Err (Refused report)) ends is = cc
  no_read_fault (Err (Usage report)) ends is = cc
  no_read_fault (Err (FileFault report)) ends is = cc
  no_read_fault (Err Memory) ends is = cc

-- where nothing is written of what is derived, the files are refused
pub writing_ends : (w : Wanted) (c : Configuration) (gathered : Gathered) (components : List Entry) (warnings : Warnings)
    → ((files : List FileOf) → Gathers files gathered → (all : List Told) × AreDerivedFrom w.request.selection c files components all × AreFirst all warnings)
    → (result : Result Written Ending) → IfErr result (EndsWriting w components warnings) → IfErr result (EndsDerivation w c gathered)
writing_ends w c gathered components warnings derived (Ok written) ends = tt
writing_ends w c gathered components warnings derived (Err (Refused report)) ends = λ files gathers. let made = derived files gathers in inr (components, made.0, made.1, ends made.0 made.2)
writing_ends w c gathered components warnings derived (Err Memory) ends = tt
writing_ends w c gathered components warnings derived (Err (Done text beside)) ends = ends
writing_ends w c gathered components warnings derived (Err (Usage report)) ends = ends
writing_ends w c gathered components warnings derived (Err ReadFault) ends = ends
writing_ends w c gathered components warnings derived (Err (FileFault report)) ends = ends

-- a run that is given this may end as its files are derived
pub derived_ends : (begun : Beginning) (given : Given) → IsGiven begun given → (gathered : Gathered) → Gathers given.files gathered
    → (r : Result Written Ending) → IfOk r (DerivesText (wanted_of given) given.config gathered) → IfErr r (EndsDerivation (wanted_of given) given.config gathered) → IsEndingAt begun r
derived_ends begun given is gathered gathers (Ok written) derives ends = document_ends begun given is written (derives given.files gathers)
derived_ends begun given is gathered gathers (Err ending) derives ends = derivation_ends begun given is gathered ending gathers ends

-- where a document is derived, the input that the paths name is at its end, unless it is left out
pub derived_at_end : (tells : Bool) (held : List ℕ → Option (List ℕ)) (had has : Option (List ℕ)) (paths : List (List ℕ)) (files : List FileOf) → AreFilesAt (IsTextAt tells held had has) paths files
    → (w : Wanted) (c : Configuration) (gathered : Gathered) → Gathers files gathered → (r : Result Written Ending) → IfOk r (DerivesText w c gathered) → IfErr r (EndsDerivation w c gathered)
    → status_at r ≡ status.Done → (is_in (codes "-") paths ≡ true) × ((w.request.selection.skip_refused ≡ false) ⊎ ((text : List ℕ) × (had ≡ Some text) × (length text ≤ most_bytes))) → IsAtEnd has
derived_at_end tells held had has paths files are w c gathered gathers (Ok written) derives ends done of =
    input_at_end tells held had has paths files are (short of.1) of.0
  where
    short : (w.request.selection.skip_refused ≡ false) ⊎ ((text : List ℕ) × (had ≡ Some text) × (length text ≤ most_bytes)) → (f : FileOf) → IsFileIn files f → IsAll had f.bytes → length f.bytes ≤ most_bytes
    short (inl none) f k all =
        let derived = (derives files gathers).2 in
        none_long 0 files derived.items (subst (AreGathered 0 files derived.items) (derived.taken.2 none) derived.taken.0) f k
    short (inr (text, told, fits)) f k all = subst (λ v. length v ≤ most_bytes) (subst (λ o. IsAll o f.bytes) told all) fits
derived_at_end tells held had has paths files are w c gathered gathers (Err (Done text beside)) derives ends done of = absurd ends
derived_at_end tells held had has paths files are w c gathered gathers (Err (Refused report)) derives ends done of = cc
derived_at_end tells held had has paths files are w c gathered gathers (Err (Usage report)) derives ends done of = cc
derived_at_end tells held had has paths files are w c gathered gathers (Err ReadFault) derives ends done of = cc
derived_at_end tells held had has paths files are w c gathered gathers (Err Memory) derives ends done of = cc
derived_at_end tells held had has paths files are w c gathered gathers (Err (FileFault report)) derives ends done of = cc

-- no run is done where its reading ends
pub not_done : (tells : Bool) (held : List ℕ → Option (List ℕ)) (r : Request) (ending : Ending) → EndsReading tells held r ending → status_of ending ≡ status.Done → ⊥
not_done tells held r (Done text beside) ends is = ends
not_done tells held r (Refused report) ends is = cc
not_done tells held r (Usage report) ends is = cc
not_done tells held r ReadFault ends is = cc
not_done tells held r Memory ends is = cc
not_done tells held r (FileFault report) ends is = cc

-- a run may end as its words are answered, with nothing read
pub words_end : (begun : Beginning) (ending : Ending) → EndsWords begun.words ending → IsEnding begun ending
unfolding Owed
words_end begun (Done text beside) (question, asks, is, none) = inr ((question, asks, is), none)
words_end begun (Usage report) (misuse, are, is) = ((misuse, are, is), refl)
words_end begun Memory ends = (refl, refl)
words_end begun (Refused report) ends = absurd ends
words_end begun ReadFault ends = absurd ends
words_end begun (FileFault report) ends = absurd ends

-- and then no input is named where a question is answered, and no fault is counted
pub words_name_none : (words : List (List ℕ)) (ending : Ending) → EndsWords words ending → status_of ending ≡ status.Done → NameInput words → ⊥
words_name_none words (Done text beside) (question, asks, is, none) so (request, asks_for, of) = no_request words question request asks asks_for
words_name_none words (Usage report) ends so named = cc
words_name_none words Memory ends so named = cc
words_name_none words (Refused report) ends so named = absurd ends
words_name_none words ReadFault ends so named = absurd ends
words_name_none words (FileFault report) ends so named = absurd ends

pub words_fault_none : (words : List (List ℕ)) (ending : Ending) → EndsWords words ending → (status_of ending ≡ status.ReadFault) ⊎ (status_of ending ≡ status.FileFault) → ⊥
words_fault_none words ReadFault ends so = ends
words_fault_none words (FileFault report) ends so = ends
words_fault_none words (Refused report) ends so = ends
words_fault_none words (Done text beside) ends (inl so) = cc
words_fault_none words (Done text beside) ends (inr so) = cc
words_fault_none words (Usage report) ends (inl so) = cc
words_fault_none words (Usage report) ends (inr so) = cc
words_fault_none words Memory ends (inl so) = cc
words_fault_none words Memory ends (inr so) = cc

pub status_is : (r : Result Written Ending) → status_at r ≡ status_of (ending_of r)
status_is (Ok written) = refl
status_is (Err ending) = refl
