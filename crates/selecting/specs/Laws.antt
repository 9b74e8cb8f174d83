-- What is selected is one thing.
use Rattle.std.specs.Prelude.{◌≡◌, ℕ, List}
use Rattle.configuration.specs.Configuration.{Configuration}
use Rattle.prepare.specs.declared.file_items.FileAlias.{FileAlias}
use Rattle.prepare.specs.declared.file_items.FileItem.{FileItem}
use Rattle.selecting.specs.Selected.{AreSelected}
use Rattle.selecting.specs.Types.{Adds}
use Rattle.selecting.specs.declared.selection.Selection.{Selection}

-- The law: of the same files the same declarations are selected, and the same aliases.
abbrev pub SelectedAsOne : Type 0
SelectedAsOne = (s : Selection) (c : Configuration) (names : List (List ℕ)) (items chosen others : List FileItem) (aliases needed more : List FileAlias)
    → AreSelected s c names items chosen aliases needed → AreSelected s c names items others aliases more → (chosen ≡ others) × (needed ≡ more)

-- The law: aliases are added to a configuration in one way.
abbrev pub AddedAsOne : Type 0
AddedAsOne = (c d e : Configuration) (needed : List FileAlias) → Adds c needed d → Adds c needed e → d ≡ e
