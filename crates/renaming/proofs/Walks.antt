-- Lists that are gone through from the first item on, and an item of them.
use Rattle.std.proofs.Common.{ℕ, zero, suc, ◌+◌, ◌<◌, List, [], ◌∷◌, ◌++◌, Bool, true, false, cond, length, take, get_or, filter, map, ◌≡◌, refl, ap, sym, subst, ◌∙◌, arith, inl, inr}
use Rattle.std.proofs.lemmas.Grind.{flat_map-append}
use Rattle.std.proofs.lemmas.List.{take_more, map_push}
use Rattle.std.proofs.lemmas.List.Elements.{filter-append}
use Rattle.std.specs.List.{flat_map}
use Rattle.texts.specs.Lists.{Somewhere}

pub somewhere_in : {A : Type 0} (P : A → Type 0) (items : List A) (i : ℕ) (item : A) → i < length items → item ≡ get_or items i item → P item → Somewhere P items
somewhere_in {A} P items i item l is p = by items i l (subst P is p)
  where
    by : (xs : List A) (j : ℕ) → j < length xs → P (get_or xs j item) → Somewhere P xs
    by [] j h q = absurd (omega arith)
    by (x ∷ xs) zero h q = inl q
    by (x ∷ xs) (suc j) h q = inr (by xs j (omega arith) q)

module _ {A I : Type 0} (u : I → A) where
  pub map_more : (items : List I) (i : ℕ) (item : I) → i < length items → item ≡ get_or items i item → map u (take (i + 1) items) ≡ map u (take i items) ++ u item ∷ []
  map_more items i item l is =
      ap (map u) (take_more items i item l) ∙ map_push u (take i items) (get_or items i item) ∙ ap (λ x. map u (take i items) ++ u x ∷ []) (sym is)

  -- an item with the fact
  pub somewhere_at : (P : A → Type 0) (items : List I) (i : ℕ) (item : I) → i < length items → item ≡ get_or items i item → P (u item) → Somewhere P (map u items)
  somewhere_at P items i item l is p = by items i l (subst (λ x. P (u x)) is p)
    where
      by : (xs : List I) (j : ℕ) → j < length xs → P (u (get_or xs j item)) → Somewhere P (map u xs)
      by [] j h q = absurd (omega arith)
      by (x ∷ xs) zero h q = inl q
      by (x ∷ xs) (suc j) h q = inr (by xs j (omega arith) q)

  module _ (is_kept : A → Bool) where
    pub kept_more : (items : List I) (i : ℕ) (item : I) → i < length items → item ≡ get_or items i item
        → filter is_kept (map u (take (i + 1) items)) ≡ filter is_kept (map u (take i items)) ++ filter is_kept (u item ∷ [])
    kept_more items i item l is = ap (filter is_kept) (map_more items i item l is) ∙ filter-append is_kept (map u (take i items)) (u item ∷ [])

    -- an item that is kept, with the fact
    pub somewhere_kept : (P : A → Type 0) (items : List I) (i : ℕ) (item : I) → i < length items → item ≡ get_or items i item → Somewhere P (filter is_kept (u item ∷ [])) → Somewhere P (filter is_kept (map u items))
    somewhere_kept P items i item l is p = by items i l (subst (λ x. Somewhere P (filter is_kept (u x ∷ []))) is p)
      where
        first : (f : A) (fs : List A) (b : Bool) → Somewhere P (cond b (f ∷ []) []) → Somewhere P (cond b (f ∷ fs) fs)
        first f fs true (inl q) = inl q
        first f fs true (inr q) = absurd q
        first f fs false q = absurd q

        later : (f : A) (fs : List A) (b : Bool) → Somewhere P fs → Somewhere P (cond b (f ∷ fs) fs)
        later f fs true q = inr q
        later f fs false q = q

        by : (xs : List I) (j : ℕ) → j < length xs → Somewhere P (filter is_kept (u (get_or xs j item) ∷ [])) → Somewhere P (filter is_kept (map u xs))
        by [] j h q = absurd (omega arith)
        by (x ∷ xs) zero h q = first (u x) (filter is_kept (map u xs)) (is_kept (u x)) q
        by (x ∷ xs) (suc j) h q = later (u x) (filter is_kept (map u xs)) (is_kept (u x)) (by xs j (omega arith) q)

-- ---- what a part more gives

pub flat_map-more : {A B : Type 0} (f : A → List B) (whole xs ys : List A) (before now : List B) → whole ≡ xs ++ ys → now ≡ (before ++ flat_map f xs) ++ flat_map f ys → now ≡ before ++ flat_map f whole
flat_map-more f whole xs ys before now same is =
    is ∙ regrouped before (flat_map f xs) (flat_map f ys) ∙ ap (λ bs. before ++ bs) (sym (flat_map-append f xs ys)) ∙ ap (λ zs. before ++ flat_map f zs) (sym same)
  where
    regrouped : {B : Type 0} (front bs cs : List B) → (front ++ bs) ++ cs ≡ front ++ (bs ++ cs)
    regrouped [] bs cs = refl
    regrouped (b ∷ front) bs cs = ap (λ zs. b ∷ zs) (regrouped front bs cs)

somewhere-append : {A : Type 0} (P : A → Type 0) (G : Type 0) (xs ys : List A) → (Somewhere P xs → G) → (Somewhere P ys → G) → Somewhere P (xs ++ ys) → G
somewhere-append P G [] ys one other some = other some
somewhere-append P G (x ∷ xs) ys one other (inl p) = one (inl p)
somewhere-append P G (x ∷ xs) ys one other (inr some) = somewhere-append P G xs ys (λ s. one (inr s)) other some

-- no item of the whole has the fact, where none of its parts has it
pub nowhere_more : {A E : Type 0} (P : A → E → Type 0) (whole xs ys : List A) → whole ≡ xs ++ ys → ((e : E) → ¬ Somewhere (λ x. P x e) xs) → ((e : E) → ¬ Somewhere (λ x. P x e) ys) → (e : E) → ¬ Somewhere (λ x. P x e) whole
nowhere_more {A} P whole xs ys same one other e some = somewhere-append (λ x. P x e) ⊥ xs ys (one e) (other e) (subst (λ zs. Somewhere (λ x. P x e) zs) same some)

pub nowhere_one : {A E : Type 0} (P : A → E → Type 0) (x : A) → ((e : E) → ¬ P x e) → (e : E) → ¬ Somewhere (λ y. P y e) (x ∷ [])
nowhere_one P x none e (inl p) = none e p
nowhere_one P x none e (inr more) = absurd more
