-- How aliases are stored: their names, their types, these without what nothing is resolved from, and the places of the names.
use Rattle.std.specs.Prelude.{◌≡◌, ℕ, List, [], ◌∷◌, map, length, Option}
use Rattle.texts.specs.Names.{place_in}
use Rattle.written_types.specs.declared.written.WrittenType.{WrittenType}
use Rattle.written_types.specs.Written.{written_view}
use Rattle.configuration.specs.Configuration.{Alias}
use Rattle.configuration.specs.Aliases.{bare}

-- the aliases of these names, each with the type in its place
abbrev pub aliases_of : List (List ℕ) → List WrittenType → List Alias
aliases_of [] ts = []
aliases_of (n ∷ ns) [] = []
aliases_of (n ∷ ns) (t ∷ ts) = record { name = n; of = written_view t } ∷ aliases_of ns ts

pub record AreStored (names : List (List ℕ)) (types bares : List WrittenType) (place_of : List ℕ → Option ℕ) : Type 0 where
  pub many : length names ≡ length types
  pub without : map written_view bares ≡ map (λ t. bare (written_view t)) types
  pub places : (name : List ℕ) → place_of name ≡ place_in name names
