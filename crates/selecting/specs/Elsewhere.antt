-- Names that mean, in a file, what another file has: the file has something of the name, but nothing of that is selected, nor
-- does it say by an alias that another's is meant.
use Rattle.std.specs.Prelude.{ℕ, List, ◌++◌, map, find, codes, Bool, ◌&&◌, is_some, is_none, Option}
use Rattle.std.specs.BTreeMap.{get_by_text}
use Rattle.std.specs.Fmt.{decimal}
use Rattle.std.specs.List.{filter}
use Rattle.texts.specs.Names.{place_in}
use Rattle.prepare.specs.declared.file_items.FileAlias.{FileAlias}
use Rattle.prepare.specs.declared.file_items.FileItem.{FileItem}
use Rattle.selecting.specs.Standing.{item_names, alias_names, names_itself}
use Rattle.selecting.specs.declared.elsewhere.Elsewhere.{Elsewhere}

-- a name in the file of the number, as one text
abbrev pub name_in : (file : ℕ) → (name : List ℕ) → List ℕ
name_in file name = decimal file ++ (codes ":" ++ name)

abbrev pub item_name_in : FileItem → List ℕ
item_name_in i = name_in i.file i.declared.name

abbrev pub alias_name_in : FileAlias → List ℕ
alias_name_in a = name_in a.file a.declared.name

-- what declarations and aliases are called, each name in its file
abbrev pub names_in : List FileItem → List FileAlias → List (List ℕ)
names_in items aliases = map item_name_in items ++ map alias_name_in aliases

-- an alias with its own name in its type, as `use b::User as User`, says that its file means another's
abbrev pub names_after : (chosen : List FileItem) → (needed aliases : List FileAlias) → List (List ℕ)
names_after chosen needed aliases = names_in chosen needed ++ map alias_name_in (filter names_itself aliases)

-- the name is found among those that are selected, and in the file only before the selection
abbrev pub is_elsewhere : {X : Type 0} → (selected before after : List ℕ → Option X) → (file : ℕ) → (name : List ℕ) → Bool
is_elsewhere selected before after file name = is_some (selected name) && (is_some (before (name_in file name)) && is_none (after (name_in file name)))

-- of the names in the types of the declaration's fields, its own parameters apart, the first such one
abbrev pub first_elsewhere : {X : Type 0} → (selected before after : List ℕ → Option X) → FileItem → Option (List ℕ)
first_elsewhere selected before after i = find (is_elsewhere selected before after i.file) i.declared.names

-- where files have these declarations and aliases, and of them those are selected: `chosen` and `needed`
abbrev pub elsewhere_name : (items chosen : List FileItem) → (aliases needed : List FileAlias) → FileItem → Option (List ℕ)
elsewhere_name items chosen aliases needed =
    let selected : List ℕ → Option ℕ = λ name. place_in name (item_names chosen ++ alias_names needed) in
    let before : List ℕ → Option ℕ = λ name. place_in name (names_in items aliases) in
    let after : List ℕ → Option ℕ = λ name. place_in name (names_after chosen needed aliases) in
    first_elsewhere selected before after

-- how the program finds it: by maps of these names
abbrev pub found_by : Elsewhere → FileItem → Option (List ℕ)
found_by e = first_elsewhere (get_by_text e.selected) (get_by_text e.before) (get_by_text e.after)
