-- What stands in types, by number.
use Rattle.std.proofs.Common.{◌≡◌, ◌<◌, ◌⊎◌, inl, inr, ℕ, zero, suc, ◌+◌, List, [], ◌∷◌, ◌++◌, length, Option, Some, None, is_some, IsTrue, refl, ap, sym, ◌∙◌, subst, arith}
use Rattle.std.proofs.lemmas.Bool.{false≢true}
use Rattle.std.proofs.lemmas.List.{length-map, get_or-map}
use Rattle.std.proofs.lemmas.Option.{none-some, same_Some}
use Rattle.open_types.specs.Open.{Open, Opens, leaf, any_value, free_object, unit, tuple, items, set, map_of, option, through, param, named, no_types, more_types, opens_of}
use Rattle.open_types.specs.Instances.{StandsIn, StandsAmong, StandsInOne}
use Rattle.open_types.specs.Laws.{SameIsEqual}
use Rattle.shapes.specs.Declarations.{DeclarationOf}
use Rattle.shapes.specs.Instances.{places_at}
use Rattle.shapes.specs.InstanceShape.{stands}
use Rattle.inlining.specs.Inlining.{targets_of, IsAmong, AreTargets}
use Rattle.inlining.proofs.Among.{targets_at}
use Rattle.inlining.proofs.Laws.{among-left, among-right, among_cases}
use Rattle.instances.specs.Lists.{AreInstances, instance_at, number_in}
use Rattle.instances.proofs.Laws.{at-one}
use Rattle.instances.proofs.Numbers.{one-found, number-is}
use Rattle.plainness.specs.Edges.{number_list, numbers_in, numbers_among, edges_at, edges_of}

pub below-next : (n k : ℕ) → n < k + 1 → (n < k) ⊎ (n ≡ k)
below-next n k l = grind arith

-- an edge begins at a number of the list
pub targets-within : (g : List (List ℕ)) (n m : ℕ) → IsAmong m (targets_of g n) → n < length g
targets-within [] n m i = absurd i
targets-within (ts ∷ g) zero m i = omega arith
targets-within (ts ∷ g) (suc n) m i = let l : n < length g = targets-within g n m i in omega (arith, l)

-- ---- in types

listed : (m : ℕ) (o : Option ℕ) → o ≡ Some m → IsAmong m (number_list o)
listed m None e = absurd (none-some m e)
listed m (Some n) e = inl (sym (same_Some n m e))

of-list : (m : ℕ) (o : Option ℕ) → IsAmong m (number_list o) → o ≡ Some m
of-list m None i = absurd i
of-list m (Some n) (inl e) = ap Some (sym e)
of-list m (Some n) (inr i) = absurd i

module _ (is : List Open) where
  -- the number of what stands in a type is among its numbers
  mutual
    number-in : (t u : Open) (m : ℕ) → StandsIn u t → number_in is u ≡ Some m → IsAmong m (numbers_in is t)
    number-in (leaf x) u m s e = absurd s
    number-in any_value u m s e = absurd s
    number-in free_object u m s e = absurd s
    number-in unit u m s e = absurd s
    number-in (tuple ts) u m s e = number-among ts u m s e
    number-in (items h t) u m s e = number-in t u m s e
    number-in (set h t) u m s e = number-in t u m s e
    number-in (map_of h k t) u m (inl s) e = among-left m (numbers_in is k) (numbers_in is t) (number-in k u m s e)
    number-in (map_of h k t) u m (inr s) e = among-right m (numbers_in is k) (numbers_in is t) (number-in t u m s e)
    number-in (option t) u m s e = number-in t u m s e
    number-in (through h t) u m s e = number-in t u m s e
    number-in (param i) u m s e = absurd s
    number-in (named d ts) u m (inl same) e = among-left m (number_list (number_in is (named d ts))) (numbers_among is ts) (listed m (number_in is (named d ts)) (ap (number_in is) (sym same) ∙ e))
    number-in (named d ts) u m (inr s) e = among-right m (number_list (number_in is (named d ts))) (numbers_among is ts) (number-among ts u m s e)

    pub number-among : (ts : Opens) (u : Open) (m : ℕ) → StandsAmong u ts → number_in is u ≡ Some m → IsAmong m (numbers_among is ts)
    number-among no_types u m s e = absurd s
    number-among (more_types t ts) u m (inl s) e = among-left m (numbers_in is t) (numbers_among is ts) (number-in t u m s e)
    number-among (more_types t ts) u m (inr s) e = among-right m (numbers_in is t) (numbers_among is ts) (number-among ts u m s e)

  -- an instance of the number for which the fact holds
  abbrev HasOne : (Open → Type 0) → ℕ → Type 0
  HasOne S m = (u : Open) × S u × (number_in is u ≡ Some m)

  has-either : (S T : Open → Type 0) (xs ys : List ℕ) (m : ℕ) → (IsAmong m xs → HasOne S m) → (IsAmong m ys → HasOne T m) → IsAmong m (xs ++ ys) → HasOne (λ u. S u ⊎ T u) m
  has-either S T xs ys m f g i = by (among_cases m xs ys i)
    where
      by : IsAmong m xs ⊎ IsAmong m ys → HasOne (λ u. S u ⊎ T u) m
      by (inl j) = let h = f j in (h.0, inl h.1, h.2)
      by (inr j) = let h = g j in (h.0, inr h.1, h.2)

  has-itself : (t : Open) (m : ℕ) → IsAmong m (number_list (number_in is t)) → HasOne (λ u. u ≡ t) m
  has-itself t m i = (t, refl, of-list m (number_in is t) i)

  mutual
    in-number : (t : Open) (m : ℕ) → IsAmong m (numbers_in is t) → HasOne (λ u. StandsIn u t) m
    in-number (leaf x) m i = absurd i
    in-number any_value m i = absurd i
    in-number free_object m i = absurd i
    in-number unit m i = absurd i
    in-number (tuple ts) m i = among-number ts m i
    in-number (items h t) m i = in-number t m i
    in-number (set h t) m i = in-number t m i
    in-number (map_of h k t) m i = has-either (λ u. StandsIn u k) (λ u. StandsIn u t) (numbers_in is k) (numbers_in is t) m (λ j. in-number k m j) (λ j. in-number t m j) i
    in-number (option t) m i = in-number t m i
    in-number (through h t) m i = in-number t m i
    in-number (param n) m i = absurd i
    in-number (named d ts) m i = has-either (λ u. u ≡ named d ts) (λ u. StandsAmong u ts) (number_list (number_in is (named d ts))) (numbers_among is ts) m (has-itself (named d ts) m) (λ j. among-number ts m j) i

    pub among-number : (ts : Opens) (m : ℕ) → IsAmong m (numbers_among is ts) → HasOne (λ u. StandsAmong u ts) m
    among-number no_types m i = absurd i
    among-number (more_types t ts) m i = has-either (λ u. StandsIn u t) (λ u. StandsAmong u ts) (numbers_in is t) (numbers_among is ts) m (λ j. in-number t m j) (λ j. among-number ts m j) i

-- ---- in places

some-of : (o : Option ℕ) → IsTrue (is_some o) → (n : ℕ) × (o ≡ Some n)
some-of None h = absurd (false≢true h)
some-of (Some n) h = (n, refl)

module _ (same : SameIsEqual) (ss : List DeclarationOf) (is : List Open) where
  abbrev edges : List (List ℕ)
  edges = edges_of ss is

  edge-within : (n m : ℕ) → IsAmong m (targets_of edges n) → n < length is
  edge-within n m i = subst (λ k. n < k) (length-map is (edges_at ss is)) (targets-within edges n m i)

  -- the edges of a number are those of its instance
  own-edges : (n : ℕ) → n < length is → targets_of edges n ≡ edges_at ss is (instance_at is n)
  own-edges n l = targets_at edges n [] (subst (λ k. n < k) (sym (length-map is (edges_at ss is))) l) ∙ get_or-map (edges_at ss is) is n unit [] l

  numbered : (n m : ℕ) → IsAmong m (targets_of edges n) → (m < length is) × StandsInOne (instance_at is m) (places_at ss (instance_at is n))
  numbered n m i =
      let h = among-number is (opens_of (places_at ss (instance_at is n))) m (subst (IsAmong m) (own-edges n (edge-within n m i)) i) in
      let at = number-is same is h.0 m h.2 in
      (at.0, subst (λ u. StandsInOne u (places_at ss (instance_at is n))) (sym at.1) h.1)

  -- an edge leads to the number of an instance
  pub edges-there : AreTargets edges
  edges-there n m i = subst (λ k. m < k) (sym (length-map is (edges_at ss is))) (numbered n m i).0

  -- what an edge leads to stands in the places
  pub edge-stands : (n m : ℕ) → IsAmong m (targets_of edges n) → StandsInOne (instance_at is m) (places_at ss (instance_at is n))
  edge-stands n m i = (numbered n m i).1

  -- and to each that stands there an edge leads
  pub stands-edge : AreInstances ss is → (n : ℕ) → n < length is → (u : Open) → StandsInOne u (places_at ss (instance_at is n)) → (m : ℕ) × IsAmong m (targets_of edges n) × (m < length is) × (instance_at is m ≡ u)
  stands-edge are n l u s =
      let there = are.all u (stands (instance_at is n) u (are.reached (instance_at is n) (at-one is n l)) s) in
      let found : (m : ℕ) × (number_in is u ≡ Some m) = some-of (number_in is u) (one-found same is u there) in
      let at = number-is same is u found.0 found.1 in
      let among : IsAmong found.0 (edges_at ss is (instance_at is n)) = number-among is (opens_of (places_at ss (instance_at is n))) u found.0 s found.1 in
      (found.0, subst (IsAmong found.0) (sym (own-edges n l)) among, at.0, at.1)
