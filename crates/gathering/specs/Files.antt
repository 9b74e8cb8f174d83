-- What stands in files, and why one has no declarations.
use Rattle.std.specs.Prelude.{◌≡◌, ◌<◌, ◌≤◌, ◌⊎◌, ℕ, suc, List, [], ◌∷◌, ◌++◌, length, map, take, Option}
use Rattle.std.specs.Str.{IsUtf8, IsValidUpTo}
use Rattle.diag.specs.declared.diagnostics.DiangosticsInner.{DiangosticsInner}
use Rattle.diag.specs.declared.error.DeriveError.TheVariants.{Refused}
use Rattle.lexing.specs.Cut.{IsDepthError, OpensTooDeep}
use Rattle.prepare.specs.FileItems.{AreItemsOf, AreImplsOf, AreAliasesOf}
use Rattle.prepare.specs.FileTexts.{text_of_file}
use Rattle.prepare.specs.Prepared.{IsNoFile}
use Rattle.prepare.specs.declared.file_items.FileItem.{FileItem}
use Rattle.prepare.specs.declared.file_items.FileImpl.{FileImpl}
use Rattle.prepare.specs.declared.file_items.FileAlias.{FileAlias}
use Rattle.telling.specs.declared.told.Told.{Told}
use Rattle.texts.specs.declared.span.Span.{Span}
use Rattle.gathering.specs.Stops.{IsHelpOfStop}
use Rattle.gathering.specs.Telling.{whole, told_by, told_longer, told_broken}
use Rattle.gathering.specs.declared.gathered.Gathered.{Gathered}
use Rattle.gathering.specs.declared.gathered.Stop.{Stop}
use Rattle.gathering.specs.declared.gathered.Stop.TheVariants as stop
use Rattle.gathering.specs.declared.source.Source as program

-- a file: its name, and its bytes
pub record FileOf : Type 0 where
  pub name : List ℕ
  pub bytes : List ℕ

abbrev pub file_of : program.Source → FileOf
file_of source = record { name = source.name.now; bytes = source.bytes.now }

-- the most bytes of a file
abbrev pub most_bytes : ℕ
most_bytes = 16777216

-- The bytes are those of a file, of this number, that is read, and these are those of its text.
pub record Has {A : Type 0} (Are : ℕ → List ℕ → List A → Type 0) (file : ℕ) (bytes : List ℕ) (own : List A) : Type 0 where
  pub short : length bytes ≤ most_bytes
  pub utf8 : IsUtf8 bytes
  pub are : Are file (text_of_file bytes) own
  pub shallow : (span : Span) → ¬ (OpensTooDeep (text_of_file bytes) span)

-- its declarations, its impls by hand, and its aliases
abbrev pub HasItems : ℕ → List ℕ → List FileItem → Type 0
HasItems = Has AreItemsOf

abbrev pub HasImpls : ℕ → List ℕ → List FileImpl → Type 0
HasImpls = Has AreImplsOf

abbrev pub HasAliases : ℕ → List ℕ → List FileAlias → Type 0
HasAliases = Has AreAliasesOf

-- the span is empty, and stands at the end of the text
abbrev pub IsEndOf : List ℕ → Span → Type 0
IsEndOf text span = (span.start ≡ length text) × (span.end ≡ length text)

-- The file has no declarations, and this is told: it is too long, or else no UTF-8 from the end of this front on, or else its text is no file of Rust.
pub data IsToldOfFile (f : FileOf) : Told → Type 0 where
  too_long : most_bytes < length f.bytes → IsToldOfFile f (told_longer f.name)
  no_text : {front : ℕ} (end : Span) → length f.bytes ≤ most_bytes → ¬ (IsUtf8 f.bytes) → IsValidUpTo f.bytes front → IsEndOf (text_of_file (take front f.bytes)) end
      → IsToldOfFile f (told_broken f.name (text_of_file (take front f.bytes)) end)
  no_file : {d : List DiangosticsInner} {help : Option (List ℕ)} → length f.bytes ≤ most_bytes → IsUtf8 f.bytes → IsDepthError (text_of_file f.bytes) (Refused d) ⊎ IsNoFile (text_of_file f.bytes) (Refused d)
      → IsHelpOfStop f.name (text_of_file f.bytes) d help → IsToldOfFile f (record (told_by f.name whole (text_of_file f.bytes) d) { help = help })

-- the bytes are those of a file that may be read, and this is its text
abbrev pub IsTextOfFile : List ℕ → List ℕ → Type 0
IsTextOfFile bytes text = (length bytes ≤ most_bytes) × IsUtf8 bytes × (text ≡ text_of_file bytes)

-- what a function told is this, unless memory ran out
abbrev pub IfTold : (Told → Type 0) → Stop → Type 0
IfTold IsTold stop.Memory = Unit {0}
IfTold IsTold (stop.Told told) = IsTold told

-- Of the files, of which the first has this number, each has its declarations, or is told of, in order.
pub data AreGathered : ℕ → List FileOf → List FileItem → List Told → Type 0 where
  no_files : {n : ℕ} → AreGathered n [] [] []
  has_items : {n : ℕ} {f : FileOf} {files : List FileOf} {own items : List FileItem} {faults : List Told} → HasItems n f.bytes own → AreGathered (suc n) files items faults → AreGathered n (f ∷ files) (own ++ items) faults
  is_told : {n : ℕ} {f : FileOf} {files : List FileOf} {items : List FileItem} {told : Told} {faults : List Told} → IsToldOfFile f told → AreGathered (suc n) files items faults → AreGathered n (f ∷ files) items (told ∷ faults)

-- Of the files, of which the first has this number, each has its own, or none where it is told of, in order.
pub data Have {A : Type 0} (Has : ℕ → List ℕ → List A → Type 0) : ℕ → List FileOf → List A → Type 0 where
  have_none : {n : ℕ} → Have Has n [] []
  has_own : {n : ℕ} {f : FileOf} {files : List FileOf} {own others : List A} → Has n f.bytes own → Have Has (suc n) files others → Have Has n (f ∷ files) (own ++ others)
  none_told : {n : ℕ} {f : FileOf} {files : List FileOf} {told : Told} {others : List A} → IsToldOfFile f told → Have Has (suc n) files others → Have Has n (f ∷ files) others

-- impls by hand, and aliases
abbrev pub HaveImpls : ℕ → List FileOf → List FileImpl → Type 0
HaveImpls = Have HasImpls

abbrev pub HaveAliases : ℕ → List FileOf → List FileAlias → Type 0
HaveAliases = Have HasAliases

-- The files have been taken, from the first on.
pub record Gathers (files : List FileOf) (g : Gathered) : Type 0 where
  pub named : g.names ≡ map (λ f. f.name) files
  pub items : AreGathered 0 files g.items g.faults
  pub impls : HaveImpls 0 files g.impls
  pub aliases : HaveAliases 0 files g.aliases
