-- Laws of options, results, lists and names, for other crates.
use Rattle.std.proofs.Common.{ℕ, suc, ◌<◌, List, [], ◌∷◌, ◌++◌, Option, Some, None, option_map, option_and_then, Bool, true, false, cond, ◌||◌, bytes_eq, length, get_or, Result, Ok, Err, MatchResult, is_ok, ◌≡◌, refl, ap, sym, subst, ◌∙◌, ◌⊎◌, inl, inr, arith}
use Rattle.std.specs.Map.{update}
use Rattle.std.proofs.lemmas.Bool.{false≢true, cases_Bool, or_from, or_parts}
use Rattle.std.proofs.lemmas.Option.{none-some, same_Some}
use Rattle.std.proofs.lemmas.Slice.Eq.{bytes_eq-Decides}
use Rattle.texts.specs.Names.{is_in, IsDistinct, place_in}

-- ---- options and results

-- a mapped option holds what is made of what the option holds
pub mapped : {A B : Type 0} (f : A → B) (o : Option A) (y : B) → option_map f o ≡ Some y → (x : A) × (o ≡ Some x) × (f x ≡ y)
mapped f None y e = absurd (none-some y e)
mapped f (Some x) y e = (x, refl, same_Some (f x) y e)

-- where a step behind an option finds something, the option holds what it is found for
pub and_then : {A B : Type 0} (f : A → Option B) (o : Option A) (y : B) → option_and_then f o ≡ Some y → (x : A) × (o ≡ Some x) × (f x ≡ Some y)
and_then f None y e = absurd (none-some y e)
and_then f (Some x) y e = (x, refl, e)

-- an option that holds nothing is none
pub none_from : {A : Type 0} (o : Option A) → ((x : A) → o ≡ Some x → ⊥) → o ≡ None
none_from None h = refl
none_from (Some x) h = absurd (h x refl)

-- what is answered after a change of the error alone was answered before it
pub ok_before : {T E F : Type 0} (r : Result T E) (s : Result T F) (x : T) (Q : E → Type 0) → MatchResult r (λ y. s ≡ Ok y) Q → is_ok s ≡ is_ok r → s ≡ Ok x → r ≡ Ok x
ok_before (Ok y) s x Q e f h = grind arith
ok_before (Err y) s x Q e f h = absurd (false≢true (sym f ∙ ap is_ok h))

-- ---- places in a list

-- of two places in a list of which neither stands before the other
pub same_place : {A : Type 0} (x y : A) (xs behind ys after : List A) → xs ++ x ∷ behind ≡ ys ++ y ∷ after
    → ((between : List A) → ¬ (ys ≡ xs ++ x ∷ between)) → ((between : List A) → ¬ (xs ≡ ys ++ y ∷ between)) → (xs ≡ ys) × (x ≡ y)
same_place x y [] behind [] after e one other = (refl, cc)
same_place x y [] behind (z ∷ ys) after e one other = absurd (one ys (let same : z ≡ x = cc in ap (λ w. w ∷ ys) same))
same_place x y (z ∷ xs) behind [] after e one other = absurd (other xs (let same : z ≡ y = cc in ap (λ w. w ∷ xs) same))
same_place {A = A} x y (z ∷ xs) behind (w ∷ ys) after e one other =
    let front : z ≡ w = cc in
    let behind_it : xs ++ x ∷ behind ≡ ys ++ y ∷ after = cc in
    let one_on : (between : List A) → ¬ (ys ≡ xs ++ x ∷ between) = λ between is. one between (ap (λ v. v ∷ ys) (sym front) ∙ ap (λ vs. z ∷ vs) is) in
    let other_on : (between : List A) → ¬ (xs ≡ ys ++ y ∷ between) = λ between is. other between (ap (λ v. v ∷ xs) front ∙ ap (λ vs. w ∷ vs) is) in
    let rest : (xs ≡ ys) × (x ≡ y) = same_place x y xs behind ys after behind_it one_on other_on in
    (ap (λ v. v ∷ xs) front ∙ ap (λ vs. w ∷ vs) rest.0, rest.1)

-- the first of two places
abbrev pub or_at : Option ℕ → Option ℕ → Option ℕ
or_at (Some p) q = Some p
or_at None q = q

-- both one further on, it is one further on
pub or_at-suc : (p q : Option ℕ) → option_map suc (or_at p q) ≡ or_at (option_map suc p) (option_map suc q)
or_at-suc None q = refl
or_at-suc (Some p) q = refl

-- a place that is there under a condition, one further on
pub suc-place : (b : Bool) (n : ℕ) → option_map suc (cond b (Some n) None) ≡ cond b (Some (suc n)) None
suc-place true n = refl
suc-place false n = refl

-- without the second it is the first
pub or_at-none : (p : Option ℕ) → or_at p None ≡ p
or_at-none None = refl
or_at-none (Some p) = refl

-- ---- places of names

place_in-push : (k : List ℕ) (ns : List (List ℕ)) (n : List ℕ) → place_in k (ns ++ n ∷ []) ≡ or_at (place_in k ns) (cond (bytes_eq k n) (Some (length ns)) None)
place_in-push k [] n = refl
place_in-push k (m ∷ ns) n = by (bytes_eq k m) (place_in-push k ns n)
  where
    by : (b : Bool) → place_in k (ns ++ n ∷ []) ≡ or_at (place_in k ns) (cond (bytes_eq k n) (Some (length ns)) None) →
        cond b (Some 0) (option_map suc (place_in k (ns ++ n ∷ []))) ≡ or_at (cond b (Some 0) (option_map suc (place_in k ns))) (cond (bytes_eq k n) (Some (suc (length ns))) None)
    by true before = refl
    by false before = ap (option_map suc) before ∙ or_at-suc (place_in k ns) (cond (bytes_eq k n) (Some (length ns)) None) ∙ ap (or_at (option_map suc (place_in k ns))) (suc-place (bytes_eq k n) (length ns))

flipped : (k n : List ℕ) → bytes_eq k n ≡ false → bytes_eq n k ≡ false
flipped k n e = by (cases_Bool (bytes_eq n k))
  where
    by : (bytes_eq n k ≡ true) ⊎ (bytes_eq n k ≡ false) → bytes_eq n k ≡ false
    by (inr f) = f
    by (inl t) = absurd (false≢true (sym e ∙ (bytes_eq-Decides k n).1 (sym ((bytes_eq-Decides n k).0 t))))

-- a look-up that says the places says them after one name more was put in
pub places_more : (ns : List (List ℕ)) (n : List ℕ) (f g : List ℕ → Option ℕ) → ((k : List ℕ) → f k ≡ place_in k ns) → f n ≡ None → ((k : List ℕ) → g k ≡ update bytes_eq f n (Some (length ns)) k) →
    (k : List ℕ) → g k ≡ place_in k (ns ++ n ∷ [])
places_more ns n f g before new after k = after k ∙ by (cases_Bool (bytes_eq n k)) ∙ sym (place_in-push k ns n)
  where
    by : (bytes_eq n k ≡ true) ⊎ (bytes_eq n k ≡ false) → update bytes_eq f n (Some (length ns)) k ≡ or_at (place_in k ns) (cond (bytes_eq k n) (Some (length ns)) None)
    by (inl t) =
        let e : n ≡ k = (bytes_eq-Decides n k).0 t in
        ap (λ b. cond b (Some (length ns)) (f k)) t
        ∙ sym (ap (λ b. cond b (Some (length ns)) None) ((bytes_eq-Decides k n).1 (sym e)))
        ∙ sym (ap (λ p. or_at p (cond (bytes_eq k n) (Some (length ns)) None)) (sym (before k) ∙ ap f (sym e) ∙ new))
    by (inr t) =
        ap (λ b. cond b (Some (length ns)) (f k)) t
        ∙ before k
        ∙ sym (or_at-none (place_in k ns))
        ∙ sym (ap (λ b. or_at (place_in k ns) (cond b (Some (length ns)) None)) (flipped n k t))

-- and after one that has a place already
pub places_stay : (ns : List (List ℕ)) (n : List ℕ) (p : ℕ) (f : List ℕ → Option ℕ) → ((k : List ℕ) → f k ≡ place_in k ns) → f n ≡ Some p → (k : List ℕ) → f k ≡ place_in k (ns ++ n ∷ [])
places_stay ns n p f before old k = before k ∙ by (cases_Bool (bytes_eq k n)) ∙ sym (place_in-push k ns n)
  where
    by : (bytes_eq k n ≡ true) ⊎ (bytes_eq k n ≡ false) → place_in k ns ≡ or_at (place_in k ns) (cond (bytes_eq k n) (Some (length ns)) None)
    by (inl t) =
        let here : place_in k ns ≡ Some p = ap (λ m. place_in m ns) ((bytes_eq-Decides k n).0 t) ∙ sym (before n) ∙ old in
        here ∙ sym (ap (λ q. or_at q (cond (bytes_eq k n) (Some (length ns)) None)) here)
    by (inr e) = sym (or_at-none (place_in k ns)) ∙ sym (ap (λ b. or_at (place_in k ns) (cond b (Some (length ns)) None)) e)

-- the place of a name is one of the list, and the name stands there
pub place-found : (k : List ℕ) (ns : List (List ℕ)) (p : ℕ) → place_in k ns ≡ Some p → (p < length ns) × (get_or ns p [] ≡ k)
place-found k [] p e = absurd (none-some p e)
place-found k (m ∷ ns) p e = by (bytes_eq k m) refl (place_in k ns) e (place-found k ns)
  where
    at-next : (r : ℕ) → r < length ns → get_or ns r [] ≡ k → suc r ≡ p → (p < suc (length ns)) × (get_or (m ∷ ns) p [] ≡ k)
    at-next r l h q = subst (λ i. (i < suc (length ns)) × (get_or (m ∷ ns) i [] ≡ k)) q (omega (arith, l), h)

    by : (b : Bool) → bytes_eq k m ≡ b → (q : Option ℕ) → cond b (Some 0) (option_map suc q) ≡ Some p → ((r : ℕ) → q ≡ Some r → (r < length ns) × (get_or ns r [] ≡ k)) → (p < suc (length ns)) × (get_or (m ∷ ns) p [] ≡ k)
    by true t q h all = subst (λ i. (i < suc (length ns)) × (get_or (m ∷ ns) i [] ≡ k)) (same_Some 0 p h) (omega arith, sym ((bytes_eq-Decides k m).0 t))
    by false t None h all = absurd (none-some p h)
    by false t (Some r) h all = at-next r (all r refl).0 (all r refl).1 (same_Some (suc r) p h)

-- ---- distinct names

is_in-push : (k : List ℕ) (ns : List (List ℕ)) (n : List ℕ) → is_in k ns ≡ false → bytes_eq k n ≡ false → is_in k (ns ++ n ∷ []) ≡ false
is_in-push k [] n i e = ap (λ b. b || false) e
is_in-push k (m ∷ ns) n i e = by (bytes_eq k m) i (λ h. is_in-push k ns n h e)
  where
    by : (b : Bool) → b || is_in k ns ≡ false → (is_in k ns ≡ false → is_in k (ns ++ n ∷ []) ≡ false) → b || is_in k (ns ++ n ∷ []) ≡ false
    by true h all = absurd (false≢true (sym h))
    by false h all = all h

-- distinct names, and another behind them
pub distinct-last : (ns : List (List ℕ)) (n : List ℕ) → IsDistinct ns → is_in n ns ≡ false → IsDistinct (ns ++ n ∷ [])
distinct-last [] n d e = (refl, tt)
distinct-last (m ∷ ns) n d e =
    let h = or_parts (bytes_eq n m) (is_in n ns) e in
    (is_in-push m ns n d.0 (flipped n m h.0), distinct-last ns n d.1 h.1)

none_here : (b : Bool) (p : Option ℕ) → cond b (Some 0) (option_map suc p) ≡ None → (b ≡ false) × (p ≡ None)
none_here true p e = absurd (none-some 0 (sym e))
none_here false None e = (refl, refl)
none_here false (Some r) e = absurd (none-some (suc r) (sym e))

placeless : (n : List ℕ) (ns : List (List ℕ)) → place_in n ns ≡ None → is_in n ns ≡ false
placeless n [] e = refl
placeless n (m ∷ ns) e = let h = none_here (bytes_eq n m) (place_in n ns) e in or_from (bytes_eq n m) (is_in n ns) h.0 (placeless n ns h.1)

-- distinct names, and one that has no place among them
pub distinct-push : (ns : List (List ℕ)) (n : List ℕ) → IsDistinct ns → place_in n ns ≡ None → IsDistinct (ns ++ n ∷ [])
distinct-push ns n d e = distinct-last ns n d (placeless n ns e)
