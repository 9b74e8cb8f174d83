-- Declarations at places of a list.
use Rattle.std.proofs.Common.{ℕ, zero, suc, ◌≤◌, List, [], ◌∷◌, length, map, ◌≡◌, refl, arith}
use Rattle.shapes.specs.Declarations.{DeclarationOf, declaration_at}

pub nameless-past : {A : Type 0} (f : A → DeclarationOf) (xs : List A) (i : ℕ) → length xs ≤ i → (declaration_at (map f xs) i).name ≡ []
nameless-past f [] i l = refl
nameless-past f (x ∷ xs) zero l = absurd (omega (arith, l))
nameless-past f (x ∷ xs) (suc i) l = nameless-past f xs i (omega (arith, l))
