-- Lists of which each item, or some item, has a fact.
use Rattle.std.proofs.Common.{inl, inr, List, [], ◌∷◌, ◌++◌, map}
use Rattle.std.specs.List.{AllByRecursion, flat_map}
use Rattle.texts.specs.Lists.{Somewhere}

module _ {A : Type 0} (P : A → Type 0) where
  pub all-append : (xs ys : List A) → AllByRecursion P xs → AllByRecursion P ys → AllByRecursion P (xs ++ ys)
  all-append [] ys front back = back
  all-append (x ∷ xs) ys front back = (front.0, all-append xs ys front.1 back)

  pub all_front : (xs ys : List A) → AllByRecursion P (xs ++ ys) → AllByRecursion P xs
  all_front [] ys all = tt
  all_front (x ∷ xs) ys all = (all.0, all_front xs ys all.1)

  pub all_back : (xs ys : List A) → AllByRecursion P (xs ++ ys) → AllByRecursion P ys
  all_back [] ys all = all
  all_back (x ∷ xs) ys all = all_back xs ys all.1

  pub all_weaker : (Q : A → Type 0) (xs : List A) → ((x : A) → P x → Q x) → AllByRecursion P xs → AllByRecursion Q xs
  all_weaker Q [] h all = tt
  all_weaker Q (x ∷ xs) h all = (h x all.0, all_weaker Q xs h all.1)

  pub all_both : (Q R : A → Type 0) (xs : List A) → ((x : A) → P x → Q x → R x) → AllByRecursion P xs → AllByRecursion Q xs → AllByRecursion R xs
  all_both Q R [] h one other = tt
  all_both Q R (x ∷ xs) h one other = (h x one.0 other.0, all_both Q R xs h one.1 other.1)

  pub all-map : {B : Type 0} (f : B → A) (xs : List B) → AllByRecursion P (map f xs) → AllByRecursion (λ x. P (f x)) xs
  all-map f [] all = tt
  all-map f (x ∷ xs) all = (all.0, all-map f xs all.1)

  pub all_mapped : {B : Type 0} (f : B → A) (xs : List B) → AllByRecursion (λ x. P (f x)) xs → AllByRecursion P (map f xs)
  all_mapped f [] all = tt
  all_mapped f (x ∷ xs) all = (all.0, all_mapped f xs all.1)

  -- an item that has a fact, among items that all have another
  pub met : (Q : A → Type 0) (G : Type 0) (xs : List A) → ((x : A) → P x → Q x → G) → Somewhere P xs → AllByRecursion Q xs → G
  met Q G [] h some all = absurd some
  met Q G (x ∷ xs) h (inl p) all = h x p all.0
  met Q G (x ∷ xs) h (inr some) all = met Q G xs h some all.1

  pub somewhere_weaker : (Q : A → Type 0) (xs : List A) → ((x : A) → P x → Q x) → Somewhere P xs → Somewhere Q xs
  somewhere_weaker Q [] h some = some
  somewhere_weaker Q (x ∷ xs) h (inl p) = inl (h x p)
  somewhere_weaker Q (x ∷ xs) h (inr some) = inr (somewhere_weaker Q xs h some)

  pub somewhere-map : {B : Type 0} (Q : B → Type 0) (f : A → B) (xs : List A) → ((x : A) → P x → Q (f x)) → Somewhere P xs → Somewhere Q (map f xs)
  somewhere-map Q f [] h some = some
  somewhere-map Q f (x ∷ xs) h (inl p) = inl (h x p)
  somewhere-map Q f (x ∷ xs) h (inr some) = inr (somewhere-map Q f xs h some)

pub all-flat_map : {A B : Type 0} (P : B → Type 0) (f : A → List B) (xs : List A) → AllByRecursion P (flat_map f xs) → AllByRecursion (λ x. AllByRecursion P (f x)) xs
all-flat_map P f [] all = tt
all-flat_map P f (x ∷ xs) all = (all_front P (f x) (flat_map f xs) all, all-flat_map P f xs (all_back P (f x) (flat_map f xs) all))
