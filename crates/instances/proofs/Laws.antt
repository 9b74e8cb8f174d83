-- Laws of lists of instances, and of what stands in types, for other crates.
use Rattle.std.proofs.Common.{ℕ, zero, suc, ◌<◌, List, [], ◌∷◌, ◌++◌, length, map, get_or, ◌≡◌, refl, sym, ◌∙◌, ◌⊎◌, inl, inr, arith}
use Rattle.open_types.specs.Open.{Open}
use Rattle.open_types.specs.Instances.{StandsInOne}
use Rattle.shapes.specs.Declarations.{DeclarationOf, declaration_at}
use Rattle.instances.specs.Lists.{IsOneOf, instance_at}

-- the instance of a number is in the list
pub at-one : (is : List Open) (n : ℕ) → n < length is → IsOneOf (instance_at is n) is
at-one [] n l = absurd (omega (arith, l))
at-one (i ∷ is) zero l = inl refl
at-one (i ∷ is) (suc n) l = inr (at-one is n (omega (arith, l)))

-- what is in one of two lists is in both together, and the other way round
pub one-left : (t : Open) (xs ys : List Open) → IsOneOf t xs → IsOneOf t (xs ++ ys)
one-left t [] ys o = absurd o
one-left t (x ∷ xs) ys (inl e) = inl e
one-left t (x ∷ xs) ys (inr o) = inr (one-left t xs ys o)

pub one-right : (t : Open) (xs ys : List Open) → IsOneOf t ys → IsOneOf t (xs ++ ys)
one-right t [] ys o = o
one-right t (x ∷ xs) ys o = inr (one-right t xs ys o)

pub one-either : (t : Open) (xs ys : List Open) → IsOneOf t (xs ++ ys) → IsOneOf t xs ⊎ IsOneOf t ys
one-either t [] ys o = inr o
one-either t (x ∷ xs) ys (inl e) = inl (inl e)
one-either t (x ∷ xs) ys (inr o) = by (one-either t xs ys o)
  where
    by : IsOneOf t xs ⊎ IsOneOf t ys → IsOneOf t (x ∷ xs) ⊎ IsOneOf t ys
    by (inl p) = inl (inr p)
    by (inr p) = inr p

-- what stands in one of two lists of types stands in both together
pub stands-left : (u : Open) (xs ys : List Open) → StandsInOne u xs → StandsInOne u (xs ++ ys)
stands-left u [] ys s = absurd s
stands-left u (x ∷ xs) ys (inl s) = inl s
stands-left u (x ∷ xs) ys (inr s) = inr (stands-left u xs ys s)

pub stands-right : (u : Open) (xs ys : List Open) → StandsInOne u ys → StandsInOne u (xs ++ ys)
stands-right u [] ys s = s
stands-right u (x ∷ xs) ys s = inr (stands-right u xs ys s)

-- the list without one of its items
abbrev pub without : (x : Open) (ys : List Open) → IsOneOf x ys → List Open
without x [] h = []
without x (y ∷ ys) (inl e) = ys
without x (y ∷ ys) (inr h) = y ∷ without x ys h

-- any other is still in it
pub still-there : (x u : Open) (ys : List Open) (h : IsOneOf x ys) → IsOneOf u ys → ¬ (u ≡ x) → IsOneOf u (without x ys h)
still-there x u [] h o n = absurd h
still-there x u (y ∷ ys) (inl e) (inl f) n = absurd (n (f ∙ sym e))
still-there x u (y ∷ ys) (inl e) (inr o) n = o
still-there x u (y ∷ ys) (inr h) (inl f) n = inl f
still-there x u (y ∷ ys) (inr h) (inr o) n = inr (still-there x u ys h o n)

-- the declaration at a place of a list that is seen as declarations
pub declared-at : {A : Type 0} (f : A → DeclarationOf) (xs : List A) (i : ℕ) (d : A) → i < length xs → declaration_at (map f xs) i ≡ f (get_or xs i d)
declared-at f [] i d l = absurd (omega (arith, l))
declared-at f (x ∷ xs) zero d l = refl
declared-at f (x ∷ xs) (suc i) d l = declared-at f xs i d (omega (arith, l))
