-- What is derived of files, and what is told where nothing is.
use Rattle.std.specs.Prelude.{◌≡◌, ◌≢◌, ◌<◌, ◌≤◌, ◌⊎◌, ℕ, List, [], ◌∷◌, ◌++◌, length, map, codes, sum_by, true, false, Option, Some, None}
use Rattle.diag.specs.declared.diagnostics.DiangosticsInner.{DiangosticsInner}
use Rattle.diag.specs.declared.error.DeriveError.TheVariants.{Refused}
use Rattle.diag.specs.declared.rename_row.RenameRow.{RenameRow}
use Rattle.schema_core.specs.Document.{Entry, document_by}
use Rattle.schema_core.specs.declared.alternatives.Alternatives.{Alternatives}
use Rattle.configuration.specs.Aliases.{AreDeep}
use Rattle.configuration.specs.Configuration.{Configuration, with_rows}
use Rattle.syntax.specs.Items.{DeclaredItem}
use Rattle.closing.specs.Described.{Describes}
use Rattle.compose.specs.Bounds.{AreBounded, collects_all}
use Rattle.compose.specs.Faults.{AreClear, AreDerived, AreRefused}
use Rattle.derive_decl.specs.Whole.{resolved_declarations}
use Rattle.shapes.specs.Declarations.{DeclarationOf}
use Rattle.serde_names.specs.Asked.{asked_of}
use Rattle.renaming.specs.Rows.{AreRowsOf}
use Rattle.telling.specs.declared.told.Told.{Told}
use Rattle.prepare.specs.declared.file_items.FileItem.{FileItem}
use Rattle.gathering.specs.Files.{FileOf, AreGathered, HaveAliases, HaveImpls, most_bytes}
use Rattle.prepare.specs.declared.file_items.FileAlias.{FileAlias}
use Rattle.prepare.specs.declared.file_items.FileImpl.{FileImpl}
use Rattle.gathering.specs.Reading.{AreRead}
use Rattle.gathering.specs.Telling.{told_plainly, told_unplaced}
use Rattle.selecting.specs.Clashes.{clash_lines, told_deep}
use Rattle.selecting.specs.Elsewhere.{elsewhere_name}
use Rattle.selecting.specs.Selected.{AreKnown, AreSelected}
use Rattle.selecting.specs.Standing.{unknown_only, unknown_exclude}
use Rattle.selecting.specs.Types.{Adds}
use Rattle.selecting.specs.declared.selection.Selection.{Selection}
use Rattle.file_derivation.specs.Faults.{AreFaults}
use Rattle.file_derivation.specs.Helps.{origin_of}
use Rattle.file_derivation.specs.LeftOut.{told_of_file}
use Rattle.file_derivation.specs.Rounds.{LeavesTexts, LeavesFaults}
use Rattle.file_derivation.specs.Warned.{AreAllWarned, AreFirst}
use Rattle.file_derivation.specs.declared.derive.Outcome.{Outcome}
use Rattle.file_derivation.specs.declared.derive.Outcome.TheVariants as outcomes
use Rattle.file_derivation.specs.declared.derive.Refusal.{Refusal}
use Rattle.file_derivation.specs.declared.derive.Refusal.TheVariants as refusals

abbrev pub names_of : List FileOf → List (List ℕ)
names_of files = map (λ f. f.name) files

-- ---- stages, each of which stands on the one before

-- each file has its declarations, and these are all, with all aliases
abbrev pub AreDeclaredIn : List FileOf → List FileItem → List FileAlias → Type 0
AreDeclaredIn files items aliases = AreGathered 0 files items [] × HaveAliases 0 files aliases

-- these are all declarations and aliases of the files, and this is told of those that have none; without skip_refused each has its own
abbrev pub AreTaken : Selection → List FileOf → (items : List FileItem) → (aliases : List FileAlias) → (faults : List Told) → Type 0
AreTaken s files items aliases faults = AreGathered 0 files items faults × HaveAliases 0 files aliases × (s.skip_refused ≡ false → faults ≡ [])

-- By names that are known these declarations are selected of files of these names, and these aliases with them; the second
-- configuration has them behind those of the first.
pub record Selects (s : Selection) (c : Configuration) (names : List (List ℕ)) (items chosen : List FileItem) (aliases needed : List FileAlias) (with_them : Configuration) : Type 0 where
  pub known : AreKnown s names items aliases
  pub selected : AreSelected s c names items chosen aliases needed
  pub adds : Adds c needed with_them

-- how many bytes the texts of declarations have
abbrev pub bytes_of : List FileItem → ℕ
bytes_of items = sum_by (λ i. length i.text) items

-- what is selected is not too long, and is read, each declaration from one of these, and these are the rows of its names
pub record AreReadWhole (names : List (List ℕ)) (chosen from : List FileItem) (ds : List DeclaredItem) (rows : List RenameRow) : Type 0 where
  pub few : bytes_of chosen ≤ most_bytes
  pub read : AreRead names chosen from ds []
  pub rows_are : AreRowsOf (asked_of ds) rows

-- Of what is selected these declarations are left, each read from one of these items, and these are the rows of names. Without skip_refused all are left, and the rows are those of their names. With it what cannot be read is left out, and then by rounds what is at fault, and this is told of it; the rows are those of the names of all that stood before these rounds.
pub data AreLeft (s : Selection) (c : Configuration) (names : List (List ℕ)) (chosen : List FileItem) : (told : List Told) → (from : List FileItem) → List DeclaredItem → List RenameRow → Type 0 where
  all_are : {from : List FileItem} {ds : List DeclaredItem} {rows : List RenameRow} → s.skip_refused ≡ false → AreReadWhole names chosen from ds rows → AreLeft s c names chosen [] from ds rows
  some_are : {readable first last from : List FileItem} {es ds : List DeclaredItem} {rows : List RenameRow} {unread faulty : List Told} → s.skip_refused ≡ true → bytes_of chosen ≤ most_bytes → LeavesTexts names chosen unread readable
      → AreRead names readable first es [] → AreRowsOf (asked_of es) rows → LeavesFaults s (with_rows c rows) names readable faulty last → AreRead names last from ds []
      → AreLeft s c names chosen (unread ++ faulty) from ds rows

-- ---- what is selected

-- The components are those of the declarations that are left of what is selected, each read from its own text, with the rows of names behind those of the configuration; their document, with alternatives under either keyword, describes what the declarations are resolved to, and these are the warnings, behind those in front and what is told of what is left out. No name is that of an alias and of something else.
pub record DerivesSelected (s : Selection) (c : Configuration) (names : List (List ℕ)) (chosen : List FileItem) (needed : List FileAlias) (elsewhere : FileItem → Option (List ℕ)) (impls : List FileImpl) (front : List Told) (components : List Entry) (warnings : List Told) : Type 0 where
  pub shallow : ¬ (AreDeep c.aliases)
  pub told : List Told
  pub from : List FileItem
  pub declarations : List DeclaredItem
  pub rows : List RenameRow
  pub left : AreLeft s c names chosen told from declarations rows
  pub distinct : clash_lines names declarations needed ≡ []
  pub derived : AreDerived (with_rows c rows) declarations components
  pub describes : (by : Alternatives) → Describes derived.resolved (collects_all c.collect) (document_by by components)
  pub warned : AreAllWarned s.not_plain (with_rows c rows) names elsewhere declarations from impls components (front ++ told) warnings

abbrev pub long_message : List ℕ
long_message = codes "the declarations are longer than 16777216 bytes"

-- There are no components of what is selected, and this is told: that aliases stand too deep in each other, or that the declarations are too long, or of those that cannot be read, or of names that an alias and something else have, or of declarations at fault, or of a bound. With skip_refused no fault of a declaration is among these.
pub data RefusesSelected (s : Selection) (c : Configuration) (names : List (List ℕ)) (chosen : List FileItem) (needed : List FileAlias) : List Told → Type 0 where
  of_depth : AreDeep c.aliases → RefusesSelected s c names chosen needed (told_deep names needed ∷ [])
  of_length : most_bytes < bytes_of chosen → RefusesSelected s c names chosen needed (told_plainly [] (codes "TooLong") long_message ∷ [])
  of_items : {from : List FileItem} {ds : List DeclaredItem} {faults : List Told} → s.skip_refused ≡ false → bytes_of chosen ≤ most_bytes → AreRead names chosen from ds faults → faults ≢ [] → RefusesSelected s c names chosen needed faults
  of_clashes : {from : List FileItem} {ds : List DeclaredItem} {rows : List RenameRow} {told : List Told} → AreLeft s c names chosen told from ds rows → clash_lines names ds needed ≢ [] → RefusesSelected s c names chosen needed (clash_lines names ds needed)
  of_declarations : {from : List FileItem} {ds : List DeclaredItem} {rows : List RenameRow} {faults : List Told} → s.skip_refused ≡ false → AreReadWhole names chosen from ds rows
      → AreFaults (with_rows c rows) ds (origin_of names s from) (length ds) faults → faults ≢ [] → RefusesSelected s c names chosen needed faults
  of_bounds : {from : List FileItem} {ds : List DeclaredItem} {rows : List RenameRow} {told : List Told} {d : List DiangosticsInner} → AreLeft s c names chosen told from ds rows
      → AreFaults (with_rows c rows) ds (origin_of names s from) (length ds) [] → AreRefused (with_rows c rows) ds (Refused d) → RefusesSelected s c names chosen needed (told_unplaced [] d ∷ [])

-- ---- the answers

-- The components are those of what is selected of the files, with its aliases behind those of the configuration; the warnings tell first of files that are left out.
pub record AreDerivedFrom (s : Selection) (c : Configuration) (files : List FileOf) (components : List Entry) (warnings : List Told) : Type 0 where
  pub items : List FileItem
  pub aliases : List FileAlias
  pub faults : List Told
  pub taken : AreTaken s files items aliases faults
  pub chosen : List FileItem
  pub needed : List FileAlias
  pub with_them : Configuration
  pub selects : Selects s c (names_of files) items chosen aliases needed with_them
  pub impls : List FileImpl
  pub written : HaveImpls 0 files impls
  pub derives : DerivesSelected s with_them (names_of files) chosen needed (elsewhere_name items chosen aliases needed) impls (map told_of_file faults) components warnings

abbrev pub only_message : List ℕ → List ℕ
only_message name = codes "no declaration has the name " ++ name

abbrev pub exclude_message : List ℕ → List ℕ
exclude_message text = codes "no declaration and no alias has the name or the line " ++ text

-- There are no components, and this is told: of files, or else of a name by which declarations are selected, or else of what is selected. With skip_refused no fault of a file is among these.
pub data AreTold (s : Selection) (c : Configuration) (files : List FileOf) : List Told → Type 0 where
  of_files : {items : List FileItem} {faults : List Told} → s.skip_refused ≡ false → AreGathered 0 files items faults → faults ≢ [] → AreTold s c files faults
  of_only : {items : List FileItem} {aliases : List FileAlias} {faults : List Told} {name : List ℕ} → AreTaken s files items aliases faults → unknown_only items s.only ≡ Some name
      → AreTold s c files (told_plainly (codes "--only") [] (only_message name) ∷ [])
  of_exclude : {items : List FileItem} {aliases : List FileAlias} {faults : List Told} {text : List ℕ} → AreTaken s files items aliases faults → unknown_only items s.only ≡ None → unknown_exclude (names_of files) items aliases s.exclude ≡ Some text
      → AreTold s c files (told_plainly (codes "--exclude") [] (exclude_message text) ∷ [])
  of_selected : {items chosen : List FileItem} {aliases needed : List FileAlias} {with_them : Configuration} {faults told : List Told} → AreTaken s files items aliases faults → Selects s c (names_of files) items chosen aliases needed with_them
      → RefusesSelected s with_them (names_of files) chosen needed told → AreTold s c files told

-- Nothing refuses the files: each has its declarations, the selection is of known names, what is selected is read, no name is that of an alias and of something else, and with the rows of its names no declaration is at fault and nothing is beyond a bound.
pub record AreSound (s : Selection) (c : Configuration) (files : List FileOf) : Type 0 where
  pub items : List FileItem
  pub aliases : List FileAlias
  pub declared : AreDeclaredIn files items aliases
  pub chosen : List FileItem
  pub needed : List FileAlias
  pub with_them : Configuration
  pub selects : Selects s c (names_of files) items chosen aliases needed with_them
  pub shallow : ¬ (AreDeep with_them.aliases)
  pub few : bytes_of chosen ≤ most_bytes
  pub from : List FileItem
  pub declarations : List DeclaredItem
  pub read : AreRead (names_of files) chosen from declarations []
  pub distinct : clash_lines (names_of files) declarations needed ≡ []
  pub clear : (rows : List RenameRow) → AreRowsOf (asked_of declarations) rows → AreClear (with_rows with_them rows) declarations
  pub bounded : (rows : List RenameRow) → AreRowsOf (asked_of declarations) rows → (ss : List DeclarationOf) → resolved_declarations (with_rows with_them rows) declarations ≡ Some ss → AreBounded (with_rows with_them rows) ss

-- The law: of files that are sound nothing is told.
abbrev pub SoundAreNotTold : Type 0
SoundAreNotTold = (s : Selection) (c : Configuration) (files : List FileOf) (told : List Told) → AreSound s c files → ¬ (AreTold s c files told)

-- ---- what functions answer on the way

-- what is told is this, unless memory ran out
abbrev pub IfToldIs : (List Told → Type 0) → Refusal → Type 0
IfToldIs Is refusals.Memory = Unit {0}
IfToldIs Is (refusals.Told told) = Is told

-- this is told of the first name of the selection that is not known
abbrev pub AreNotKnown : Selection → (names : List (List ℕ)) → List FileItem → List FileAlias → List Told → Type 0
AreNotKnown s names items aliases told =
    ((name : List ℕ) × (unknown_only items s.only ≡ Some name) × (told ≡ told_plainly (codes "--only") [] (only_message name) ∷ []))
    ⊎ ((text : List ℕ) × (unknown_only items s.only ≡ None) × (unknown_exclude names items aliases s.exclude ≡ Some text) × (told ≡ told_plainly (codes "--exclude") [] (exclude_message text) ∷ []))

-- what is told of the declarations that these items read as: their faults, or else this refusal
abbrev pub AreFaultsOrBound : Selection → Configuration → List (List ℕ) → List FileItem → List DiangosticsInner → List Told → Type 0
AreFaultsOrBound s c names items d told = (from : List FileItem) (ds : List DeclaredItem) → AreRead names items from ds [] →
    (AreFaults c ds (origin_of names s from) (length ds) told × (told ≢ [])) ⊎ (AreFaults c ds (origin_of names s from) (length ds) [] × (told ≡ told_unplaced [] d ∷ []))

-- what holds of an outcome that is one or the other
abbrev pub IfDerived : (List Entry → List Told → Type 0) → Outcome → Type 0
IfDerived Is (outcomes.Derived d warnings) = (all : List Told) × Is d.components all × AreFirst all warnings
IfDerived Is (outcomes.Refused told) = Unit {0}

abbrev pub IfRefused : (List Told → Type 0) → Outcome → Type 0
IfRefused Is (outcomes.Derived d warnings) = Unit {0}
IfRefused Is (outcomes.Refused told) = Is told

abbrev pub IsDerivation : Outcome → Type 0
IsDerivation (outcomes.Derived d warnings) = Unit {0}
IsDerivation (outcomes.Refused told) = ⊥
