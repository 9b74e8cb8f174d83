-- What is gathered of files, and what is read of declarations, is one thing.
use Rattle.std.specs.Prelude.{◌≡◌, ℕ, List, []}
use Rattle.syntax.specs.Items.{DeclaredItem}
use Rattle.telling.specs.declared.told.Told.{Told}
use Rattle.prepare.specs.declared.file_items.FileAlias.{FileAlias}
use Rattle.prepare.specs.declared.file_items.FileItem.{FileItem}
use Rattle.gathering.specs.Files.{FileOf, AreGathered, HaveAliases}
use Rattle.gathering.specs.Reading.{AreRead}

-- The law: files of which nothing is told have one list of declarations.
abbrev pub GatheredAsOne : Type 0
GatheredAsOne = (n : ℕ) (files : List FileOf) (items others : List FileItem) (faults : List Told) → AreGathered n files items [] → AreGathered n files others faults → (items ≡ others) × (faults ≡ [])

-- The law: and they have one list of aliases.
abbrev pub AliasedAsOne : Type 0
AliasedAsOne = (n : ℕ) (files : List FileOf) (items : List FileItem) (aliases others : List FileAlias) → AreGathered n files items [] → HaveAliases n files aliases → HaveAliases n files others → aliases ≡ others

-- The law: declarations of which nothing is told are read as one list, each from one of them.
abbrev pub ReadAsOne : Type 0
ReadAsOne = (names : List (List ℕ)) (items from others : List FileItem) (ds es : List DeclaredItem) (faults : List Told) → AreRead names items from ds [] → AreRead names items others es faults
    → (from ≡ others) × (ds ≡ es) × (faults ≡ [])
