-- Lists of names.
use Rattle.std.specs.Prelude.{◌≡◌, ℕ, suc, List, [], ◌∷◌, Bool, false, Option, Some, None, option_map, bytes_eq, cond}
use Rattle.std.specs.List.{list_any}

-- the name is one of the list
abbrev pub is_in : List ℕ → List (List ℕ) → Bool
is_in k ks = list_any (bytes_eq k) ks

-- no name stands in the list twice
abbrev pub IsDistinct : List (List ℕ) → Type 0
IsDistinct [] = Unit {0}
IsDistinct (k ∷ ks) = (is_in k ks ≡ false) × IsDistinct ks

-- the place of the first equal name
abbrev pub place_in : List ℕ → List (List ℕ) → Option ℕ
place_in k [] = None
place_in k (n ∷ ns) = cond (bytes_eq k n) (Some 0) (option_map suc (place_in k ns))
