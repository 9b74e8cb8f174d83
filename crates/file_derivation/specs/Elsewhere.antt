-- What is told at the names of declarations: of those that name what another file has in place of their own file's.
use Rattle.std.specs.Prelude.{ℕ, List, [], ◌∷◌, ◌++◌, codes, Option, Some, None}
use Rattle.syntax.specs.Items.{DeclaredItem}
use Rattle.telling.specs.Told.{told_at}
use Rattle.telling.specs.declared.told.Told.{Told}
use Rattle.prepare.specs.declared.file_items.FileItem.{FileItem}
use Rattle.gathering.specs.Reading.{file_name}

-- what is told of a declaration that is read from the item, at its name
abbrev pub told_at_name : (names : List (List ℕ)) → DeclaredItem → FileItem → (message : List ℕ) → Told
told_at_name names d i message = told_at (file_name names i.file) i.place i.text d.ident.span (codes "warning") message

abbrev pub elsewhere_message : (name : List ℕ) → List ℕ
elsewhere_message name = name ++ codes ", which it names, is that of another file: the one of this file is not described"

-- of one that does, by this name
abbrev pub told_elsewhere : (names : List (List ℕ)) → DeclaredItem → FileItem → (elsewhere : Option (List ℕ)) → List Told
told_elsewhere names d i None = []
told_elsewhere names d i (Some name) = told_at_name names d i (elsewhere_message name) ∷ []

-- of declarations, each of which is read from the item at the same place
abbrev pub told_all_elsewhere : (names : List (List ℕ)) → (elsewhere : FileItem → Option (List ℕ)) → List DeclaredItem → List FileItem → List Told
told_all_elsewhere names elsewhere [] from = []
told_all_elsewhere names elsewhere (d ∷ ds) [] = []
told_all_elsewhere names elsewhere (d ∷ ds) (i ∷ from) = told_elsewhere names d i (elsewhere i) ++ told_all_elsewhere names elsewhere ds from
