-- The first hundred of what is warned of, with one more.
use Rattle.std.proofs.Common.{◌≡◌, ◌∙◌, ◌<◌, ◌≤◌, ◌⊎◌, ◌+◌, ◌-◌, refl, ℕ, zero, suc, List, [], ◌∷◌, ◌++◌, length, take, drop, Option, Some, None, ap, sym, inl, inr, append-nil, arith}
use Rattle.std.proofs.lemmas.Bool.{cases_lt}
use Rattle.std.proofs.lemmas.List.{take_all, take-append-le, length-append}
use Rattle.std.specs.List.{remove}
use Rattle.std.proofs.lemmas.Option.{none-some, same_Some}
use Rattle.telling.specs.declared.told.Told.{Told}
use Rattle.file_derivation.specs.Warned.{IsToldFirst}

-- one more of fewer than a hundred is one of the first
first_more : (all told : List Told) (t : Told) → told ≡ take 100 all → length all < 100 → told ++ t ∷ [] ≡ take 100 (all ++ t ∷ [])
first_more all told t first few =
    let more : length (all ++ t ∷ []) ≡ length all + 1 = length-append all (t ∷ []) in
    ap (λ v. v ++ t ∷ []) (first ∙ take_all 100 all (omega arith)) ∙ sym (take_all 100 (all ++ t ∷ []) (omega arith))

-- behind a hundred none is
first_full : (all told : List Told) (t : Told) → told ≡ take 100 all → 100 ≤ length all → told ≡ take 100 (all ++ t ∷ [])
first_full all told t first full = first ∙ sym (take-append-le 100 all (t ∷ []) full)

pub count_more : (all : List Told) (t : Told) (count : ℕ) → count ≡ length all → count + 1 ≡ length (all ++ t ∷ [])
count_more all t count is = let more : length (all ++ t ∷ []) ≡ length all + 1 = length-append all (t ∷ []) in omega arith

-- what is told is the one that is added
pub told_more : (all told : List Told) (one t : Told) (count : ℕ) (o : Option Told) → told ≡ take 100 all → count ≡ length all → IsToldFirst count one o → o ≡ Some t → told ++ t ∷ [] ≡ take 100 (all ++ one ∷ [])
told_more all told one t count o first is first_one some = by (cases_lt count 100)
  where
    by : (count < 100) ⊎ (100 ≤ count) → told ++ t ∷ [] ≡ take 100 (all ++ one ∷ [])
    by (inl few) =
        let same : t ≡ one = same_Some t one (sym some ∙ first_one.0 few) in
        ap (λ (v : Told). told ++ v ∷ []) same ∙ first_more all told one first (omega arith)
    by (inr full) = absurd (none-some t (sym (first_one.1 full) ∙ some))

-- and where nothing is told, there are a hundred
pub told_full : (all told : List Told) (one : Told) (count : ℕ) (o : Option Told) → told ≡ take 100 all → count ≡ length all → IsToldFirst count one o → o ≡ None → told ≡ take 100 (all ++ one ∷ [])
told_full all told one count o first is first_one none = by (cases_lt count 100)
  where
    by : (count < 100) ⊎ (100 ≤ count) → told ≡ take 100 (all ++ one ∷ [])
    by (inl few) = absurd (none-some one (sym none ∙ first_one.0 few))
    by (inr full) = first_full all told one first (omega arith)

-- of the first so many fewer are the first
pub take_fewer : {A : Type 0} (m n : ℕ) (xs : List A) → m ≤ n → take m (take n xs) ≡ take m xs
take_fewer zero n xs l = refl
take_fewer (suc m) zero xs l = absurd (omega arith)
take_fewer (suc m) (suc n) [] l = refl
take_fewer (suc m) (suc n) (x ∷ xs) l = ap (λ v. x ∷ v) (take_fewer m n xs (omega arith))

-- behind all of a list nothing stands
pub drop_past : {A : Type 0} (n : ℕ) (xs : List A) → length xs ≤ n → drop n xs ≡ []
drop_past zero [] l = refl
drop_past (suc n) [] l = refl
drop_past zero (x ∷ xs) l = absurd (omega arith)
drop_past (suc n) (x ∷ xs) l = drop_past n xs (omega arith)

-- without the last
pub last_off : {A : Type 0} (xs ys : List A) (n : ℕ) → n ≡ length xs → 0 < length xs → ys ≡ remove xs (n - 1) → ys ≡ take (length xs - 1) xs
last_off xs ys n is some removed =
    let past : drop (suc (length xs - 1)) xs ≡ [] = drop_past (suc (length xs - 1)) xs (omega arith) in
    removed ∙ ap (λ m. remove xs (m - 1)) is ∙ ap (λ v. take (length xs - 1) xs ++ v) past ∙ append-nil (take (length xs - 1) xs)
