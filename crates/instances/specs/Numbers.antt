-- Numbers of instances: as types of a table, and by their names.
use Rattle.std.specs.Prelude.{◌≡◌, ◌<◌, ◌==◌, ℕ, suc, List, [], ◌∷◌, length, get_or, cond, Option, Some, None, option_map}
use Rattle.texts.specs.Names.{IsDistinct, place_in}
use Rattle.open_types.specs.Open.{Open}
use Rattle.type_table.specs.Types.{AllBelow}

-- the first place of a number in a list
abbrev pub place_among : List ℕ → ℕ → Option ℕ
place_among [] n = None
place_among (m ∷ ms) n = cond (n == m) (Some 0) (option_map suc (place_among ms n))

-- the instances are types of the table; of each type of it, its place among them is known
pub record AreNumbered (known : List Open) (instances : List ℕ) (numbers : List (Option ℕ)) : Type 0 where
  pub within : AllBelow (length known) instances
  pub many : length numbers ≡ length known
  pub placed : (n : ℕ) → n < length known → get_or numbers n None ≡ place_among instances n

-- the names are distinct, and what is looked up of a name is its place
pub record AreNamed (look : List ℕ → Option ℕ) (names : List (List ℕ)) : Type 0 where
  pub distinct : IsDistinct names
  pub placed : (name : List ℕ) → look name ≡ place_in name names
