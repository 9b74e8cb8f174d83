-- What holds of a list whose items are resolved from the first on, and where an item is at fault.
use Rattle.std.proofs.Common.{ℕ, zero, suc, ◌+◌, ◌<◌, List, [], ◌∷◌, ◌++◌, Bool, true, false, cond, Option, Some, None, option_map, option_and_then, length, take, get_or, filter, filter_map, map, ◌≡◌, refl, ap, sym, subst, ◌∙◌, arith, inl, inr}
use Rattle.std.proofs.lemmas.List.{take_more, map_push}
use Rattle.std.proofs.lemmas.List.Elements.{filter-append, filter_map-append}
use Rattle.std.proofs.lemmas.Option.{none-some, same_Some}
use Rattle.std.specs.List.{AllByRecursion, cons_option}
use Rattle.texts.specs.Lists.{Somewhere}
use Rattle.scopes.specs.Names.{texts}
use Rattle.derive_decl.specs.declared.written_member.WrittenMember.{WrittenMember}
use Rattle.shapes.specs.Declarations.{member_names}
use Rattle.derive_decl.specs.Resolved.{all_of}
use Rattle.derive_decl.specs.Views.{written_member_view}

-- ---- one more

grown : {B : Type 0} (y : B) (ys : List B) (o : Option B) (p q : Option (List B)) → ((ws : List B) → p ≡ Some ws → q ≡ Some (ws ++ y ∷ [])) →
    option_and_then (λ w. option_map (λ ws. w ∷ ws) p) o ≡ Some ys → option_and_then (λ w. option_map (λ ws. w ∷ ws) q) o ≡ Some (ys ++ y ∷ [])
grown y ys None p q h e = absurd (none-some ys e)
grown y ys (Some w) None q h e = absurd (none-some ys e)
grown y ys (Some w) (Some ws) q h e = ap (option_map (λ vs. w ∷ vs)) (h ws refl) ∙ ap (λ vs. Some (vs ++ y ∷ [])) (same_Some (w ∷ ws) ys e)

pub all_of-push : {A B : Type 0} (f : A → Option B) (xs : List A) (ys : List B) (x : A) (y : B) → all_of f xs ≡ Some ys → f x ≡ Some y → all_of f (xs ++ x ∷ []) ≡ Some (ys ++ y ∷ [])
all_of-push f [] ys x y e g = ap (option_and_then (λ z. Some (z ∷ []))) g ∙ ap (λ zs. Some (zs ++ y ∷ [])) (same_Some [] ys e)
all_of-push f (z ∷ zs) ys x y e g = grown y ys (f z) (all_of f zs) (all_of f (zs ++ x ∷ [])) (λ ws h. all_of-push f zs ws x y h g) e

both-grown : {B : Type 0} (ys zs : List B) (o : Option B) (p q : Option (List B)) → ((ws : List B) → p ≡ Some ws → q ≡ Some (ws ++ zs)) →
    option_and_then (λ w. option_map (λ ws. w ∷ ws) p) o ≡ Some ys → option_and_then (λ w. option_map (λ ws. w ∷ ws) q) o ≡ Some (ys ++ zs)
both-grown ys zs None p q h e = absurd (none-some ys e)
both-grown ys zs (Some w) None q h e = absurd (none-some ys e)
both-grown ys zs (Some w) (Some ws) q h e = ap (option_map (λ vs. w ∷ vs)) (h ws refl) ∙ ap (λ vs. Some (vs ++ zs)) (same_Some (w ∷ ws) ys e)

-- the results of a list, and of another behind it
all_of-append : {A B : Type 0} (f : A → Option B) (xs more : List A) (ys zs : List B) → all_of f xs ≡ Some ys → all_of f more ≡ Some zs → all_of f (xs ++ more) ≡ Some (ys ++ zs)
all_of-append f [] more ys zs e g = g ∙ ap (λ vs. Some (vs ++ zs)) (same_Some [] ys e)
all_of-append f (x ∷ xs) more ys zs e g = both-grown ys zs (f x) (all_of f xs) (all_of f (xs ++ more)) (λ ws h. all_of-append f xs more ws zs h g) e

-- the results so far, and one more
pub all_more : {A B I O : Type 0} (f : A → Option B) (u : I → A) (v : O → B) (items : List I) (i : ℕ) (item : I) (outs : List O) (out : O) → i < length items → item ≡ get_or items i item →
    all_of f (map u (take i items)) ≡ Some (map v outs) → f (u item) ≡ Some (v out) → all_of f (map u (take (i + 1) items)) ≡ Some (map v (outs ++ out ∷ []))
all_more f u v items i item outs out l is e g =
    ap (λ xs. all_of f (map u xs)) (take_more items i item l)
    ∙ ap (all_of f) (map_push u (take i items) (get_or items i item))
    ∙ all_of-push f (map u (take i items)) (map v outs) (u (get_or items i item)) (v out) e (ap (λ x. f (u x)) (sym is) ∙ g)
    ∙ ap Some (sym (map_push v outs out))

-- a fact of one item
pub somewhere : {A I : Type 0} (P : A → Type 0) (u : I → A) (items : List I) (i : ℕ) (item : I) → i < length items → item ≡ get_or items i item → P (u item) → Somewhere P (map u items)
somewhere {I = I} P u items i item l is p = by items i l (subst (λ x. P (u x)) is p)
  where
    by : (xs : List I) (j : ℕ) → j < length xs → P (u (get_or xs j item)) → Somewhere P (map u xs)
    by [] j h q = absurd (omega arith)
    by (x ∷ xs) zero h q = inl q
    by (x ∷ xs) (suc j) h q = inr (by xs j (omega arith) q)

-- a fact of all is one of each
pub fact_at : {A I : Type 0} (P : A → Type 0) (u : I → A) (items : List I) (i : ℕ) (item : I) → i < length items → item ≡ get_or items i item → AllByRecursion P (map u items) → P (u item)
fact_at {I = I} P u items i item l is all = subst (λ x. P (u x)) (sym is) (by items i l all)
  where
    by : (xs : List I) (j : ℕ) → j < length xs → AllByRecursion P (map u xs) → P (u (get_or xs j item))
    by [] j h a = absurd (omega arith)
    by (x ∷ xs) zero h a = a.0
    by (x ∷ xs) (suc j) h a = by xs j (omega arith) a.1

-- ---- items that are kept

module _ {A I : Type 0} (u : I → A) (is_kept : A → Bool) where
  -- those so far, and one more where it is kept
  kept_more : (items : List I) (i : ℕ) (item : I) → i < length items → item ≡ get_or items i item → filter is_kept (map u (take (i + 1) items)) ≡ filter is_kept (map u (take i items)) ++ filter is_kept (u item ∷ [])
  kept_more items i item l is =
      ap (λ xs. filter is_kept (map u xs)) (take_more items i item l)
      ∙ ap (filter is_kept) (map_push u (take i items) (get_or items i item))
      ∙ filter-append is_kept (map u (take i items)) (u (get_or items i item) ∷ [])
      ∙ ap (λ x. filter is_kept (map u (take i items)) ++ filter is_kept (u x ∷ [])) (sym is)

  -- the results of those that are kept
  pub all_kept_more : {B : Type 0} (f : A → Option B) (items : List I) (i : ℕ) (item : I) (ys more : List B) → i < length items → item ≡ get_or items i item →
      all_of f (filter is_kept (map u (take i items))) ≡ Some ys → all_of f (filter is_kept (u item ∷ [])) ≡ Some more → all_of f (filter is_kept (map u (take (i + 1) items))) ≡ Some (ys ++ more)
  all_kept_more f items i item ys more l is e g =
      ap (all_of f) (kept_more items i item l is) ∙ all_of-append f (filter is_kept (map u (take i items))) (filter is_kept (u item ∷ [])) ys more e g

  pub some_kept_more : {B : Type 0} (f : A → Option B) (items : List I) (i : ℕ) (item : I) (ys more : List B) → i < length items → item ≡ get_or items i item →
      filter_map f (filter is_kept (map u (take i items))) ≡ ys → filter_map f (filter is_kept (u item ∷ [])) ≡ more → filter_map f (filter is_kept (map u (take (i + 1) items))) ≡ ys ++ more
  some_kept_more f items i item ys more l is e g =
      ap (filter_map f) (kept_more items i item l is) ∙ filter_map-append f (filter is_kept (map u (take i items))) (filter is_kept (u item ∷ [])) ∙ (λ j. e j ++ g j)

  -- a fact of one that is kept
  pub somewhere_kept : (P : A → Type 0) (items : List I) (i : ℕ) (item : I) → i < length items → item ≡ get_or items i item → Somewhere P (filter is_kept (u item ∷ [])) → Somewhere P (filter is_kept (map u items))
  somewhere_kept P items i item l is p = by items i l (subst (λ x. Somewhere P (filter is_kept (u x ∷ []))) is p)
    where
      first : (f : A) (fs : List A) → (b : Bool) → Somewhere P (cond b (f ∷ []) []) → Somewhere P (cond b (f ∷ fs) fs)
      first f fs true (inl q) = inl q
      first f fs true (inr q) = absurd q
      first f fs false q = absurd q

      later : (f : A) (fs : List A) → (b : Bool) → Somewhere P fs → Somewhere P (cond b (f ∷ fs) fs)
      later f fs true q = inr q
      later f fs false q = q

      by : (xs : List I) (j : ℕ) → j < length xs → Somewhere P (filter is_kept (u (get_or xs j item) ∷ [])) → Somewhere P (filter is_kept (map u xs))
      by [] j h q = absurd (omega arith)
      by (x ∷ xs) zero h q = first (u x) (filter is_kept (map u xs)) (is_kept (u x)) q
      by (x ∷ xs) (suc j) h q = later (u x) (filter is_kept (map u xs)) (is_kept (u x)) (by xs j (omega arith) q)

-- the results are what the items give, where each gives one
pub all-given : {A B : Type 0} (f : A → Option B) (xs : List A) (ys : List B) → all_of f xs ≡ Some ys → filter_map f xs ≡ ys
all-given f [] ys e = same_Some [] ys e
all-given {B = B} f (x ∷ xs) ys e = by (f x) (all_of f xs) e (all-given f xs)
  where
    by : (o : Option B) (p : Option (List B)) → option_and_then (λ w. option_map (λ ws. w ∷ ws) p) o ≡ Some ys → ((ws : List B) → p ≡ Some ws → filter_map f xs ≡ ws) → cons_option o (filter_map f xs) ≡ ys
    by None p h later = absurd (none-some ys h)
    by (Some w) None h later = absurd (none-some ys h)
    by (Some w) (Some ws) h later = ap (λ vs. w ∷ vs) (later ws refl) ∙ same_Some (w ∷ ws) ys h

-- ---- names

pub member_names-are : (ms : List WrittenMember) → member_names (map written_member_view ms) ≡ texts (map (λ (m : WrittenMember). m.ident) ms)
member_names-are [] = refl
member_names-are (m ∷ ms) = ap (λ ns. m.ident.text ∷ ns) (member_names-are ms)
