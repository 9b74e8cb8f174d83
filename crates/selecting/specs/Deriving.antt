-- Declarations of one name: where those that derive serde's traits are asked for, one of them goes before those that do not.
use Rattle.std.specs.Prelude.{ℕ, List, Bool, not, ◌||◌, is_none, Option}
use Rattle.std.specs.List.{filter}
use Rattle.prepare.specs.declared.file_items.FileItem.{FileItem}
use Rattle.selecting.specs.Standing.{item_names}
use Rattle.selecting.specs.declared.selection.Selection.{Selection}

-- the names of those that derive one of the traits
abbrev pub deriving_names : List FileItem → List (List ℕ)
deriving_names items = item_names (filter (λ i. i.declared.is_first) items)

-- it stays where none of its name is found that derives them, or it does so itself
abbrev pub stays : {X : Type 0} → (found : List ℕ → Option X) → Selection → FileItem → Bool
stays found s i = not s.serde || (i.declared.is_first || is_none (found i.declared.name))

abbrev pub items_staying : {X : Type 0} → (found : List ℕ → Option X) → Selection → List FileItem → List FileItem
items_staying found s items = filter (stays found s) items
