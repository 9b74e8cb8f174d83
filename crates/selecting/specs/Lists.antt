-- Parts of lists, and names in lists.
use Rattle.std.specs.Prelude.{ℕ, List, [], ◌∷◌, Bool, true, false, is_some}
use Rattle.texts.specs.Names.{place_in}

-- these are those of which it holds, in order
pub data AreThose {A : Type 0} (Holds : A → Type 0) : List A → List A → Type 0 where
  no_others : AreThose Holds [] []
  one_holds : {x : A} {xs ys : List A} → Holds x → AreThose Holds xs ys → AreThose Holds (x ∷ xs) (x ∷ ys)
  one_fails : {x : A} {xs ys : List A} → ¬ (Holds x) → AreThose Holds xs ys → AreThose Holds (x ∷ xs) ys

-- the name is one of these
abbrev pub is_named : List ℕ → List (List ℕ) → Bool
is_named name names = is_some (place_in name names)

abbrev pub is_empty : {A : Type 0} → List A → Bool
is_empty [] = true
is_empty (x ∷ xs) = false
