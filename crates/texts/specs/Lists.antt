-- Facts of lists.
use Rattle.std.specs.Prelude.{◌⊎◌, List, [], ◌∷◌}

-- the fact holds of some item
abbrev pub Somewhere : {A : Type 0} → (A → Type 0) → List A → Type 0
Somewhere P [] = ⊥
Somewhere P (x ∷ xs) = P x ⊎ Somewhere P xs
