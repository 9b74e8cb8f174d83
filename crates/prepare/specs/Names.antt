-- The names that stand in trees, at any depth: identifiers that are no keywords, without the `r#` of raw ones.
use Rattle.std.specs.Prelude.{ℕ, List, [], ◌∷◌, ◌++◌, Option, Some, None}
use Rattle.std.specs.List.{flat_map}
use Rattle.tokens.specs.Trees.{Tree, token, group, Trees, end, ◌▸◌}
use Rattle.written_types.specs.declared.written.Ident.{Ident}
use Rattle.words.specs.Words.{word_of}
use Rattle.words.specs.Reading.{as_name}

abbrev pub itself : Option Ident → List (List ℕ)
itself None = []
itself (Some name) = name.text ∷ []

abbrev mutual
  pub names_in : Tree → List (List ℕ)
  names_in (token t) = itself (as_name (word_of (token t)))
  names_in (group b ts s) = names_of ts

  pub names_of : Trees → List (List ℕ)
  names_of end = []
  names_of (t ▸ ts) = names_in t ++ names_of ts

abbrev pub all_names : List Tree → List (List ℕ)
all_names ts = flat_map names_in ts
