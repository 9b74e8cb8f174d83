-- What follows in a list of trees: behind some of them, perhaps none, or past at least one.
use Rattle.std.proofs.Common.{◌≡◌, ◌≤◌, ◌<◌, List, ◌∷◌, length, arith, subst, ◌⊎◌, inl, inr, Bool, true, false, cond, Option, Some, None}
use Rattle.tokens.specs.Trees.{Tree, trees_of, depth}

pub data IsBehind : List Tree → List Tree → Type 0 where
  same : {ts : List Tree} → IsBehind ts ts
  later : {t : Tree} {rest ts : List Tree} → IsBehind rest ts → IsBehind rest (t ∷ ts)

pub data IsPast : List Tree → List Tree → Type 0 where
  past : {t : Tree} {rest ts : List Tree} → IsBehind rest ts → IsPast rest (t ∷ ts)

pub weakly : {rest ts : List Tree} → IsPast rest ts → IsBehind rest ts
weakly (past h) = later h

pub then_behind : {a b c : List Tree} → IsBehind a b → IsBehind b c → IsBehind a c
then_behind h same = h
then_behind h (later g) = later (then_behind h g)

pub past_behind : {a b c : List Tree} → IsPast a b → IsBehind b c → IsPast a c
past_behind h same = h
past_behind h (later g) = past (weakly (past_behind h g))

pub length_behind : {rest ts : List Tree} → IsBehind rest ts → length rest ≤ length ts
length_behind same = omega arith
length_behind (later h) = omega (arith, length_behind h)

pub length_past : {rest ts : List Tree} → IsPast rest ts → length rest < length ts
length_past (past h) = omega (arith, length_behind h)

pub depth_behind : {rest ts : List Tree} → IsBehind rest ts → depth (trees_of rest) ≤ depth (trees_of ts)
depth_behind same = omega arith
depth_behind (later h) = omega (arith, depth_behind h)

-- ---- by the values of readers
module _ {A : Type 0} where
  pub some_same : {x y : A} → Some x ≡ Some y → x ≡ y
  some_same e = cc

  -- which of the two was taken
  pub either : (b : Bool) {x y : Option A} {r : A} → cond b x y ≡ Some r → (x ≡ Some r) ⊎ (y ≡ Some r)
  either true e = inl e
  either false e = inr e

  pub not_none : {B : Type 0} {r : A} → None ≡ Some r → B
  not_none e = cc

-- a reader goes past a tree
abbrev pub GoesPast : (List Tree → Option (List Tree)) → Type 0
GoesPast one = (ts rest : List Tree) → one ts ≡ Some rest → IsPast rest ts

pub first_past : {t : Tree} {rest ts : List Tree} → Some ts ≡ Some rest → IsPast rest (t ∷ ts)
first_past {t = t} {ts = ts} e = subst (λ v. IsPast v (t ∷ ts)) (some_same e) (past same)
