-- What is first in two lists is that of the first list, or else of the second.
use Rattle.std.proofs.Common.{◌≡◌, ◌∙◌, ◌<◌, ◌+◌, ℕ, suc, List, [], ◌∷◌, ◌++◌, length, drop, get_or, refl, ap, sym, Option, Some, None, Bool, true, false, cond, add-one, drop-cons}
use Rattle.std.specs.List.{AllByRecursion}
use Rattle.std.specs.Option.{option_or}
use Rattle.std.proofs.lemmas.Option.{none-some}
use Rattle.attributes.specs.Attributes.{AttributeItem}
use Rattle.syntax.specs.Items.{DeclaredItem}
use Rattle.derive_decl.specs.Attributed.{is_other, other_of, first_other, attributes_in, attributes_among}

pub first_joined : (xs ys : List AttributeItem) → first_other (xs ++ ys) ≡ option_or (first_other xs) (first_other ys)
first_joined [] ys = refl
first_joined (a ∷ xs) ys = by (is_other a) (first_joined xs ys)
  where
    by : (b : Bool) → first_other (xs ++ ys) ≡ option_or (first_other xs) (first_other ys) → cond b (Some (other_of a)) (first_other (xs ++ ys)) ≡ option_or (cond b (Some (other_of a)) (first_other xs)) (first_other ys)
    by true h = refl
    by false h = h

-- the first of a list is that of its first item, or else that of the others
module _ {A B : Type 0} (first : List A → Option B) (one : A → Option B) (split : (x : A) (xs : List A) → first (x ∷ xs) ≡ option_or (one x) (first xs)) where
  -- the first of an item, or else the first behind it
  first_at : (xs : List A) (i : ℕ) (x : A) → i < length xs → x ≡ get_or xs i x → first (drop i xs) ≡ option_or (one x) (first (drop (i + 1) xs))
  first_at xs i x l e = rw (add-one, drop-cons xs i x, ← e) (split x (drop (suc i) xs))

  -- the item has none, so the first stands behind it
  pub first_later : (xs : List A) (i : ℕ) (x : A) (found : Option B) → i < length xs → x ≡ get_or xs i x → found ≡ one x → found ≡ None →
      first (drop i xs) ≡ first xs → first (drop (i + 1) xs) ≡ first xs
  first_later xs i x found l e here none so = sym (ap (λ o. option_or o (first (drop (i + 1) xs))) (sym here ∙ none)) ∙ sym (first_at xs i x l e) ∙ so

  -- the item has one, which is the first
  pub first_here : (xs : List A) (i : ℕ) (x : A) (found : Option B) (s : B) → i < length xs → x ≡ get_or xs i x → found ≡ one x → found ≡ Some s →
      first (drop i xs) ≡ first xs → Some s ≡ first xs
  first_here xs i x found s l e here is so = sym (ap (λ o. option_or o (first (drop (i + 1) xs))) (sym here ∙ is)) ∙ sym (first_at xs i x l e) ∙ so

-- the first attribute of parts
pub first-parts : {A : Type 0} (parts : List A → List AttributeItem) (part : A → List AttributeItem) → ((x : A) (xs : List A) → parts (x ∷ xs) ≡ part x ++ parts xs) → (x : A) (xs : List A) →
    first_other (parts (x ∷ xs)) ≡ option_or (first_other (part x)) (first_other (parts xs))
first-parts parts part split x xs = ap first_other (split x xs) ∙ first_joined (part x) (parts xs)

neither : {A : Type 0} (o p : Option A) → option_or o p ≡ None → (o ≡ None) × (p ≡ None)
neither None p e = (refl, e)
neither (Some x) p e = absurd (none-some x (sym e))

-- something is derived from each attribute of each, where it is of all
pub each_derivable : (ds : List DeclaredItem) → first_other (attributes_among ds) ≡ None → AllByRecursion (λ d. first_other (attributes_in d) ≡ None) ds
each_derivable [] e = tt
each_derivable (d ∷ ds) e =
    let parts = neither (first_other (attributes_in d)) (first_other (attributes_among ds)) (sym (first_joined (attributes_in d) (attributes_among ds)) ∙ e) in
    (parts.0, each_derivable ds parts.1)
