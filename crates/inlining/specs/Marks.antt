-- Marks of instances, in rounds: each round marks those whose targets all were marked in the round before. An instance is marked after a number of rounds exactly if no inline path that begins with it has more instances than that.
use Rattle.std.specs.Prelude.{◌≡◌, ◌<◌, ◌+◌, ℕ, zero, suc, List, [], ◌∷◌, ◌++◌, length, map, Bool, true, false, not, ◌&&◌, cond, slice_index_or}

-- whether an instance is marked
abbrev pub mark : List Bool → ℕ → Bool
mark marks d = slice_index_or marks d false

abbrev pub are_marked : List Bool → List ℕ → Bool
are_marked marks [] = true
are_marked marks (t ∷ ts) = mark marks t && are_marked marks ts

abbrev pub no_marks : List (List ℕ) → List Bool
no_marks g = map (λ _. false) g

-- the marks of the round after one
abbrev pub next_marks : List (List ℕ) → List Bool → List Bool
next_marks g marks = map (are_marked marks) g

-- the marks after as many rounds
abbrev pub marks_of : List (List ℕ) → ℕ → List Bool
marks_of g zero = no_marks g
marks_of g (suc n) = next_marks g (marks_of g n)

-- the marks are those of the first rounds
abbrev pub AreRounds : List (List ℕ) → List (List Bool) → Type 0
AreRounds g rounds = (n : ℕ) → n < length rounds → slice_index_or rounds n [] ≡ marks_of g n

-- There are as many rounds beyond the first, and the last does not mark the instance.
pub record IsUnmarked (g : List (List ℕ)) (most : ℕ) (rounds : List (List Bool)) (d : ℕ) : Type 0 where
  pub are : AreRounds g rounds
  pub many : length rounds ≡ most + 1
  pub within : d < length g
  pub unmarked : mark (marks_of g most) d ≡ false

-- of the first so many instances those that are marked and were not before
abbrev pub new_marks : List Bool → List Bool → ℕ → List ℕ
new_marks before marks zero = []
new_marks before marks (suc n) = new_marks before marks n ++ cond (mark marks n && not (mark before n)) (n ∷ []) []
