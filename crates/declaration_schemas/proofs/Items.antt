-- A fact of an item of a list, and facts of two lists place by place.
use Rattle.std.proofs.Common.{ℕ, zero, suc, ◌+◌, ◌<◌, List, [], ◌∷◌, ◌++◌, length, map, take, get_or, ◌≡◌, sym, subst, arith, inl, inr}
use Rattle.std.proofs.lemmas.List.{take_more, map_push}
use Rattle.std.specs.List.{AllZip}
use Rattle.texts.specs.Lists.{Somewhere}

-- what holds of an item holds somewhere
pub somewhere : {A : Type 0} (P : A → Type 0) (xs : List A) (i : ℕ) (x : A) → i < length xs → x ≡ get_or xs i x → P x → Somewhere P xs
somewhere {A = A} P xs i x l is p = by xs i l (subst P is p)
  where
    by : (ys : List A) (j : ℕ) → j < length ys → P (get_or ys j x) → Somewhere P ys
    by [] j h q = absurd (omega arith)
    by (y ∷ ys) zero h q = inl q
    by (y ∷ ys) (suc j) h q = inr (by ys j (omega arith) q)

zip_push : {A B : Type 0} (R : A → B → Type 0) (xs : List A) (ys : List B) (x : A) (y : B) → AllZip R xs ys → R x y → AllZip R (xs ++ x ∷ []) (ys ++ y ∷ [])
zip_push R [] [] x y all r = (r, tt)
zip_push R [] (v ∷ ys) x y all r = absurd all
zip_push R (u ∷ xs) [] x y all r = absurd all
zip_push R (u ∷ xs) (v ∷ ys) x y all r = (all.0, zip_push R xs ys x y all.1 r)

-- one more item of both lists
pub zip_more : {A B O : Type 0} (R : A → B → Type 0) (v : O → B) (xs : List A) (i : ℕ) (x : A) (ys : List O) (y : O) → i < length xs → x ≡ get_or xs i x → AllZip R (take i xs) (map v ys) → R x (v y) →
    AllZip R (take (i + 1) xs) (map v (ys ++ y ∷ []))
zip_more R v xs i x ys y l is all r =
    subst (λ zs. AllZip R zs (map v (ys ++ y ∷ []))) (sym (take_more xs i x l))
    (subst (AllZip R (take i xs ++ get_or xs i x ∷ [])) (sym (map_push v ys y)) (zip_push R (take i xs) (map v ys) (get_or xs i x) (v y) all (subst (λ z. R z (v y)) is r)))
