-- Characters of a text, and runs of them.
use Rattle.std.proofs.Common.{◌≡◌, ℕ, ◌≤◌, List, [], ◌∷◌, ◌++◌, length, refl, ap, ◌∙◌, arith, Bool, true}
use Rattle.literals.specs.Scanning.{skip}
use Rattle.literals.proofs.Laws.{skip_more, skip_short}

-- ---- parts of a text
pub same_parts : (xs ys us vs : List ℕ) → xs ++ us ≡ ys ++ vs → length xs ≡ length ys → (xs ≡ ys) × (us ≡ vs)
same_parts [] [] us vs e l = (refl, e)
same_parts [] (y ∷ ys) us vs e l = absurd (omega arith)
same_parts (x ∷ xs) [] us vs e l = absurd (omega arith)
same_parts (x ∷ xs) (y ∷ ys) us vs e l =
    let heads : x ≡ y = cc in
    let tails : xs ++ us ≡ ys ++ vs = cc in
    let rest = same_parts xs ys us vs tails (omega arith) in
    (ap (λ v. x ∷ v) rest.0 ∙ ap (λ v. v ∷ ys) heads, rest.1)

-- ---- runs of characters

-- a run that goes on takes one character more
pub run_shorter : (p : ℕ → Bool) (c : ℕ) (cs : List ℕ) → p c ≡ true → length (skip p (c ∷ cs)) ≤ length cs
run_shorter p c cs h = let same = ap length (skip_more p c cs h) in omega (arith, skip_short p cs)
