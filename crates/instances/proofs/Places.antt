-- Places of names in a list that grows at its end.
use Rattle.std.proofs.Common.{ℕ, zero, suc, ◌+◌, ◌<◌, List, [], ◌∷◌, ◌++◌, Option, Some, None, bytes_eq, length, take, get_or, map, ◌≡◌, refl, ap, sym, ◌∙◌, arith}
use Rattle.std.specs.Map.{update}
use Rattle.std.proofs.lemmas.List.{take_more, map_push}
use Rattle.texts.proofs.Laws.{places_more, distinct-push}
use Rattle.open_types.specs.Open.{Open, unit}
use Rattle.instances.specs.Lists.{instance_at}
use Rattle.instances.specs.Numbers.{AreNamed}

-- ---- one name more

-- a look-up that gives the places of names gives them after one name more was put in
module _ (ns : List (List ℕ)) (n : List ℕ) (f g : List ℕ → Option ℕ) (named : AreNamed f ns) (new : f n ≡ None) (after : (k : List ℕ) → g k ≡ update bytes_eq f n (Some (length ns)) k) where
  pub named-more : AreNamed g (ns ++ n ∷ [])
  named-more = record { distinct = distinct-push ns n named.distinct (sym (named.placed n) ∙ new); placed = places_more ns n f g named.placed new after }

-- ---- a name that is there

-- the name of an earlier instance
pub name-at : (f : Open → List ℕ) (is : List Open) (n m : ℕ) → m < length (map f (take n is)) → (m < n) × (get_or (map f (take n is)) m [] ≡ f (instance_at is m))
name-at f [] zero m l = absurd (omega (arith, l))
name-at f [] (suc n) m l = absurd (omega (arith, l))
name-at f (i ∷ is) zero m l = absurd (omega (arith, l))
name-at f (i ∷ is) (suc n) zero l = (omega arith, refl)
name-at f (i ∷ is) (suc n) (suc m) l = let h = name-at f is n m (omega (arith, l)) in (omega (arith, h.0), h.1)

-- one name more
pub name-push : (f : Open → List ℕ) (is : List Open) (n : ℕ) → n < length is → map f (take (n + 1) is) ≡ map f (take n is) ++ f (instance_at is n) ∷ []
name-push f is n l = ap (map f) (take_more is n unit l) ∙ map_push f (take n is) (instance_at is n)
