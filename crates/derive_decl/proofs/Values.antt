-- Values that may be missing: where they are there, and what is known of them then.
use Rattle.std.proofs.Common.{ℕ, List, [], ◌∷◌, filter, Bool, true, false, not, cond, Option, Some, None, IsSome, option_map, option_and_then, ◌≡◌, ◌∙◌, refl, ap, subst, inl, inr}
use Rattle.std.specs.List.{AllByRecursion}
use Rattle.std.proofs.lemmas.Bool.{false≢true, and_parts, and_from, not-true}
use Rattle.std.proofs.lemmas.Option.{none-some, same_Some, cond_some}
use Rattle.diag.specs.Refusal.{RefusesNone}
use Rattle.diag.specs.declared.error.DeriveError.{DeriveError}
use Rattle.texts.specs.Lists.{Somewhere}
use Rattle.texts.specs.Names.{is_in, IsDistinct}
use Rattle.scopes.specs.Names.{are_distinct}
use Rattle.derive_decl.specs.Resolved.{all_of, passing}

pub joined : {B : Type 0} (o : Option B) (p : Option (List B)) (ys : List B) → option_and_then (λ w. option_map (λ ws. w ∷ ws) p) o ≡ Some ys → (w : B) × (ws : List B) × (o ≡ Some w) × (p ≡ Some ws) × (w ∷ ws ≡ ys)
joined None p ys e = absurd (none-some ys e)
joined (Some w) None ys e = absurd (none-some ys e)
joined (Some w) (Some ws) ys e = (w, ws, refl, refl, same_Some (w ∷ ws) ys e)

pub chosen : {A : Type 0} (b : Bool) (o : Option A) (y : A) → cond b o None ≡ Some y → (b ≡ true) × (o ≡ Some y)
chosen true o y e = (refl, e)
chosen false o y e = absurd (none-some y e)

pub passed : {A : Type 0} (test : A → Bool) (o : Option A) (y : A) → passing test o ≡ Some y → (o ≡ Some y) × (test y ≡ true)
passed test None y e = absurd (none-some y e)
passed test (Some x) y e = let is = cond_some (test x) x y e in (ap Some is.1, subst (λ z. test z ≡ true) is.1 is.0)

-- a value that passes the test is the value
pub passes : {A : Type 0} (test : A → Bool) (o : Option A) (y : A) → o ≡ Some y → test y ≡ true → passing test o ≡ Some y
passes test o y is holds = ap (passing test) is ∙ ap (λ b. cond b (Some y) None) holds

pub some_is : {A : Type 0} (o : Option A) → IsSome o → (x : A) × (o ≡ Some x)
some_is None h = absurd (false≢true h)
some_is (Some x) h = (x, refl)

-- ---- names

pub distinct_from : (ks : List (List ℕ)) → are_distinct ks ≡ true → IsDistinct ks
distinct_from [] e = tt
distinct_from (k ∷ ks) e = let parts = and_parts (not (is_in k ks)) (are_distinct ks) e in (not-true (is_in k ks) parts.0, distinct_from ks parts.1)

pub are_distinct_from : (ks : List (List ℕ)) → IsDistinct ks → are_distinct ks ≡ true
are_distinct_from [] d = refl
are_distinct_from (k ∷ ks) d = and_from (not (is_in k ks)) (are_distinct ks) (ap not d.0) (are_distinct_from ks d.1)

-- ---- lists of them

module _ {A B : Type 0} (f : A → Option B) (P : A → DeriveError → Type 0) where
  -- where each item with a value is not refused, nor are items that all have one
  pub all_clear : ((x : A) (y : B) → f x ≡ Some y → RefusesNone (P x)) → (xs : List A) (ys : List B) → all_of f xs ≡ Some ys → RefusesNone (λ e. Somewhere (λ x. P x e) xs)
  all_clear clear [] ys is e h = h
  all_clear clear (x ∷ xs) ys is e (inl h) = let j = joined (f x) (all_of f xs) ys is in clear x j.0 j.2 e h
  all_clear clear (x ∷ xs) ys is e (inr h) = let j = joined (f x) (all_of f xs) ys is in all_clear clear xs j.1 j.3 e h

  -- where each item that is not refused has a value, all that are not refused have
  pub all_given : (Q : A → Type 0) → ((x : A) → Q x → RefusesNone (P x) → (y : B) × (f x ≡ Some y)) → (xs : List A) → AllByRecursion Q xs → RefusesNone (λ e. Somewhere (λ x. P x e) xs) → (ys : List B) × (all_of f xs ≡ Some ys)
  all_given Q given [] all none = ([], refl)
  all_given Q given (x ∷ xs) all none =
      let first = given x all.0 (λ e h. none e (inl h)) in
      let others = all_given Q given xs all.1 (λ e h. none e (inr h)) in
      (first.0 ∷ others.0, λ i. option_and_then (λ y. option_map (λ ys. y ∷ ys) (others.1 i)) (first.1 i))

pub all_kept : {A : Type 0} (Q : A → Type 0) (is_kept : A → Bool) (xs : List A) → AllByRecursion Q xs → AllByRecursion Q (filter is_kept xs)
all_kept Q is_kept [] all = tt
all_kept Q is_kept (x ∷ xs) all = by (is_kept x) (all_kept Q is_kept xs all.1)
  where
    by : (b : Bool) → AllByRecursion Q (filter is_kept xs) → AllByRecursion Q (cond b (x ∷ filter is_kept xs) (filter is_kept xs))
    by true others = (all.0, others)
    by false others = others

pub all_any : {A : Type 0} (xs : List A) → AllByRecursion (λ x. Unit {0}) xs
all_any [] = tt
all_any (x ∷ xs) = (tt, all_any xs)
