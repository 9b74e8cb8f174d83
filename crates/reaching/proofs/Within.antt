-- Names that are in lists.
use Rattle.std.proofs.Common.{◌≡◌, ℕ, zero, suc, ◌<◌, List, [], ◌∷◌, ◌++◌, length, get_or, refl, arith, ◌⊎◌, inl, inr, true, bytes_eq}
use Rattle.std.specs.List.{remove}
use Rattle.std.proofs.lemmas.Slice.Eq.{bytes_eq-Decides}
use Rattle.std.proofs.lemmas.Bool.{or_cases, or_left, or_right}
use Rattle.texts.specs.Names.{is_in}

-- ---- tests
pub bytes_same : (a b : List ℕ) → bytes_eq a b ≡ true → a ≡ b
bytes_same a b h = (bytes_eq-Decides a b).0 h

pub bytes_itself : (a : List ℕ) → bytes_eq a a ≡ true
bytes_itself a = (bytes_eq-Decides a a).1 refl

-- ---- lists
module _ (k : List ℕ) where
  pub in_either : (xs ys : List (List ℕ)) → is_in k (xs ++ ys) ≡ true → (is_in k xs ≡ true) ⊎ (is_in k ys ≡ true)
  in_either [] ys h = inr h
  in_either (x ∷ xs) ys h = elim (or_cases (bytes_eq k x) (is_in k (xs ++ ys)) h) [
    | inl e ↦ inl (or_left (bytes_eq k x) (is_in k xs) e)
    | inr m ↦ elim (in_either xs ys m) [ inl l ↦ inl (or_right (bytes_eq k x) (is_in k xs) l) | inr r ↦ inr r ]
  ]

  pub in_right : (xs ys : List (List ℕ)) → is_in k ys ≡ true → is_in k (xs ++ ys) ≡ true
  in_right [] ys h = h
  in_right (x ∷ xs) ys h = or_right (bytes_eq k x) (is_in k (xs ++ ys)) (in_right xs ys h)

  pub in_left : (xs ys : List (List ℕ)) → is_in k xs ≡ true → is_in k (xs ++ ys) ≡ true
  in_left [] ys h = cc
  in_left (x ∷ xs) ys h = elim (or_cases (bytes_eq k x) (is_in k xs) h) [
    | inl e ↦ or_left (bytes_eq k x) (is_in k (xs ++ ys)) e
    | inr m ↦ or_right (bytes_eq k x) (is_in k (xs ++ ys)) (in_left xs ys m)
  ]

  -- what is left, where one is taken out
  pub still_in : (xs : List (List ℕ)) (i : ℕ) (x : List ℕ) → i < length xs → is_in k xs ≡ true → (k ≡ get_or xs i x) ⊎ (is_in k (remove xs i) ≡ true)
  still_in [] i x l h = cc
  still_in (y ∷ ys) zero x l h = elim (or_cases (bytes_eq k y) (is_in k ys) h) [ inl e ↦ inl (bytes_same k y e) | inr m ↦ inr m ]
  still_in (y ∷ ys) (suc i) x l h = elim (or_cases (bytes_eq k y) (is_in k ys) h) [
    | inl e ↦ inr (or_left (bytes_eq k y) (is_in k (remove ys i)) e)
    | inr m ↦ elim (still_in ys i x (omega arith) m) [ inl e ↦ inl e | inr r ↦ inr (or_right (bytes_eq k y) (is_in k (remove ys i)) r) ]
  ]

  pub was_in : (xs : List (List ℕ)) (i : ℕ) → is_in k (remove xs i) ≡ true → is_in k xs ≡ true
  was_in [] zero h = h
  was_in [] (suc i) h = h
  was_in (y ∷ ys) zero h = or_right (bytes_eq k y) (is_in k ys) h
  was_in (y ∷ ys) (suc i) h = elim (or_cases (bytes_eq k y) (is_in k (remove ys i)) h) [
    | inl e ↦ or_left (bytes_eq k y) (is_in k ys) e
    | inr m ↦ or_right (bytes_eq k y) (is_in k ys) (was_in ys i m)
  ]

pub item_in : (xs : List (List ℕ)) (i : ℕ) (x : List ℕ) → i < length xs → is_in (get_or xs i x) xs ≡ true
item_in [] i x l = absurd (omega arith)
item_in (y ∷ ys) zero x l = or_left (bytes_eq y y) (is_in y ys) (bytes_itself y)
item_in (y ∷ ys) (suc i) x l = or_right (bytes_eq (get_or ys i x) y) (is_in (get_or ys i x) ys) (item_in ys i x (omega arith))
