-- Which of what files have counts: what is excluded does not, and a stand-in gives way to the user's own files.
use Rattle.std.specs.Prelude.{ℕ, List, ◌++◌, map, find, codes, Bool, not, ◌&&◌, ◌||◌, nat_lt, is_none, Option}
use Rattle.std.specs.Fmt.{decimal}
use Rattle.std.specs.List.{filter}
use Rattle.texts.specs.Names.{is_in}
use Rattle.prepare.specs.declared.file_items.FileItem.{FileItem}
use Rattle.prepare.specs.declared.file_items.FileAlias.{FileAlias}
use Rattle.gathering.specs.Reading.{file_name}
use Rattle.selecting.specs.declared.selection.Selection.{Selection}

abbrev pub item_names : List FileItem → List (List ℕ)
item_names items = map (λ i. i.declared.name) items

abbrev pub alias_names : List FileAlias → List (List ℕ)
alias_names aliases = map (λ a. a.declared.name) aliases

-- ---- exclusion

-- a line of the file of the path, as compilers tell it
abbrev pub line_text : (path : List ℕ) → ℕ → List ℕ
line_text path line = path ++ (codes ":" ++ decimal line)

-- where the name of a declaration stands, and where an alias begins
abbrev pub item_line : (names : List (List ℕ)) → FileItem → List ℕ
item_line names i = line_text (file_name names i.file) i.line

abbrev pub alias_line : (names : List (List ℕ)) → FileAlias → List ℕ
alias_line names a = line_text (file_name names a.file) a.place.line

-- what has this name, at this line, is excluded by either
abbrev pub is_excluded : Selection → (name line : List ℕ) → Bool
is_excluded s name line = is_in name s.exclude || is_in line s.exclude

abbrev pub items_left : Selection → (names : List (List ℕ)) → List FileItem → List FileItem
items_left s names items = filter (λ i. not (is_excluded s i.declared.name (item_line names i))) items

abbrev pub aliases_left : Selection → (names : List (List ℕ)) → List FileAlias → List FileAlias
aliases_left s names aliases = filter (λ a. not (is_excluded s a.declared.name (alias_line names a))) aliases

-- ---- stand-ins

-- the first files are the user's own, and those behind them are stand-ins
abbrev pub is_own : Selection → (file : ℕ) → Bool
is_own s file = nat_lt file s.own

-- an alias has its own name in its type, as in `type Url = url::Url;`
abbrev pub names_itself : FileAlias → Bool
names_itself a = is_in a.declared.name a.declared.names

-- what the user's own files declare: an alias with its own name in its type declares no other
abbrev pub own_names : Selection → List FileItem → List FileAlias → List (List ℕ)
own_names s items aliases = item_names (filter (λ i. is_own s i.file) items) ++ alias_names (filter (λ a. is_own s a.file && not (names_itself a)) aliases)

-- what a stand-in has under a name that is found among those does not count
abbrev pub counts : {X : Type 0} → (found : List ℕ → Option X) → Selection → (file : ℕ) → (name : List ℕ) → Bool
counts found s file name = is_own s file || is_none (found name)

abbrev pub items_counting : {X : Type 0} → (found : List ℕ → Option X) → Selection → List FileItem → List FileItem
items_counting found s items = filter (λ i. counts found s i.file i.declared.name) items

abbrev pub aliases_counting : {X : Type 0} → (found : List ℕ → Option X) → Selection → List FileAlias → List FileAlias
aliases_counting found s aliases = filter (λ a. counts found s a.file a.declared.name) aliases

-- ---- names that are not known

-- the first of the names that no declaration has
abbrev pub unknown_only : List FileItem → (only : List (List ℕ)) → Option (List ℕ)
unknown_only items only = find (λ name. not (is_in name (item_names items))) only

-- the name is that of a declaration or an alias, or the line of one
abbrev pub excludes : (names : List (List ℕ)) → List FileItem → List FileAlias → List ℕ → Bool
excludes names items aliases text =
    (is_in text (item_names items) || is_in text (alias_names aliases))
    || (is_in text (map (item_line names) items) || is_in text (map (alias_line names) aliases))

-- the first of the texts that excludes nothing
abbrev pub unknown_exclude : (names : List (List ℕ)) → List FileItem → List FileAlias → (exclude : List (List ℕ)) → Option (List ℕ)
unknown_exclude names items aliases exclude = find (λ text. not (excludes names items aliases text)) exclude
