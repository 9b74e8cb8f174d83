-- Names that an alias has, and something else, too.
use Rattle.std.specs.Prelude.{ℕ, List, [], ◌∷◌, ◌++◌, map, get_or, bytes_eq, codes, Bool, false, not, ◌||◌, is_some, Option, Some, None}
use Rattle.std.specs.List.{filter, flat_map, list_any}
use Rattle.texts.specs.Names.{place_in}
use Rattle.scopes.specs.Names.{declared_names, texts, duplicate_message}
use Rattle.scopes.specs.Parameters.{type_parameters}
use Rattle.syntax.specs.Items.{DeclaredItem}
use Rattle.telling.specs.Told.{told_at}
use Rattle.telling.specs.declared.told.Told.{Told}
use Rattle.prepare.specs.declared.file_items.FileAlias.{FileAlias}
use Rattle.gathering.specs.Reading.{file_name}
use Rattle.gathering.specs.Telling.{told_plainly, whole_span}
use Rattle.selecting.specs.Standing.{alias_names, alias_line}

-- the names of the type parameters of declarations
abbrev pub parameter_names : List DeclaredItem → List (List ℕ)
parameter_names ds = flat_map (λ d. texts (type_parameters d.generics)) ds

-- the first of the name among the aliases has another type
abbrev pub is_other : List FileAlias → List ℕ → Option ℕ → Bool
is_other aliases of None = false
is_other aliases of (Some at) = not (bytes_eq (get_or (map (λ a. a.of) aliases) at []) of)

-- one of the names is found
abbrev pub finds_one : {X : Type 0} → (found : List ℕ → Option X) → List (List ℕ) → Bool
finds_one found names = list_any (λ name. is_some (found name)) names

-- names are found among those of declarations, of their type parameters, and of aliases
abbrev pub clashes_by : {X Y : Type 0} → (declared : List ℕ → Option X) → (parameters : List ℕ → Option Y) → (places : List ℕ → Option ℕ) → List FileAlias → FileAlias → Bool
clashes_by declared parameters places aliases a =
    (is_some (declared a.declared.name) || finds_one parameters (a.declared.name ∷ a.declared.names)) || is_other aliases a.of (places a.declared.name)

-- a declaration, a type parameter or an alias of another type has the alias's name, or a type parameter one in its type
abbrev pub clashes : List DeclaredItem → List FileAlias → FileAlias → Bool
clashes ds aliases a =
    clashes_by (λ name. place_in name (declared_names ds)) (λ name. place_in name (parameter_names ds)) (λ name. place_in name (alias_names aliases)) aliases a

abbrev pub clash_help : (line : List ℕ) → List ℕ
clash_help line = codes "another alias, a declaration or a type parameter has this name, too, or a type parameter one in its type; leave this one out by --exclude " ++ line

-- what is told of the alias, at its own text
abbrev pub told_alias : (names : List (List ℕ)) → FileAlias → (label message help : List ℕ) → Told
told_alias names a label message help = record (told_at (file_name names a.file) a.place a.text (whole_span a.text) label message) { help = Some help }

abbrev pub told_clash : (names : List (List ℕ)) → FileAlias → Told
told_clash names a = told_alias names a (codes "DuplicateName") (duplicate_message a.declared.name) (clash_help (alias_line names a))

-- what is told of aliases whose names a declaration, a type parameter or another alias has, or of whose types a type parameter has a name
abbrev pub clash_lines : (names : List (List ℕ)) → List DeclaredItem → List FileAlias → List Told
clash_lines names ds aliases = map (told_clash names) (filter (clashes ds aliases) aliases)

-- what is told of aliases of which some are replaced too often, at the first that is named
abbrev pub depth_message : List ℕ
depth_message = codes "aliases are replaced more than 32 times"

abbrev pub depth_help : (line : List ℕ) → List ℕ
depth_help line = codes "this alias, or another that is named, stands in itself or too deep; leave that one out by --exclude, this one by " ++ line

abbrev pub told_first : (names : List (List ℕ)) → FileAlias → Told
told_first names a = told_alias names a (codes "AliasDepth") depth_message (depth_help (alias_line names a))

abbrev pub told_deep : (names : List (List ℕ)) → List FileAlias → Told
told_deep names [] = told_plainly [] (codes "AliasDepth") depth_message
told_deep names (a ∷ aliases) = told_first names a
