-- Names that a `use` gives: each is an alias where what it is for is a type that is known.
use Rattle.std.specs.Prelude.{ℕ, List, ◌++◌, bytes_eq, codes, Bool, not, ◌||◌, is_some, Option}
use Rattle.std.specs.List.{filter, list_any}
use Rattle.leaves.specs.Leaves.{leaf_of}
use Rattle.prepare.specs.declared.file_items.FileAlias.{FileAlias}
use Rattle.prepare.specs.declared.file_items.FileItem.{FileItem}
use Rattle.selecting.specs.Standing.{item_names, alias_names}

-- what declarations and `type` items declare
abbrev pub type_names : List FileItem → List FileAlias → List (List ℕ)
type_names items aliases = item_names items ++ alias_names (filter (λ a. not a.is_import) aliases)

-- a type of the name is found, or is known without a declaration, and takes no arguments
abbrev pub is_type : {X : Type 0} → (found : List ℕ → Option X) → List ℕ → Bool
is_type found name = is_some (found name) || (is_some (leaf_of name) || bytes_eq name (codes "Value"))

-- a `type` item is an alias, and so is the name for such a type
abbrev pub is_alias : {X : Type 0} → (found : List ℕ → Option X) → FileAlias → Bool
is_alias found a = not a.is_import || list_any (is_type found) a.declared.names

abbrev pub aliases_among : {X : Type 0} → (found : List ℕ → Option X) → List FileAlias → List FileAlias
aliases_among found aliases = filter (is_alias found) aliases
