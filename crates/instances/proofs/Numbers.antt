-- Numbers of instances, as types of a table.
use Rattle.std.proofs.Common.{ℕ, zero, suc, ◌<◌, ◌==◌, List, [], ◌∷◌, length, map, get_or, Bool, true, false, cond, Option, Some, None, option_map, is_some, IsTrue, inl, inr, ◌≡◌, refl, ap, sym, subst, ◌∙◌, arith}
use Rattle.std.proofs.lemmas.Bool.{false≢true, eqb-true, eq-eqb}
use Rattle.std.proofs.lemmas.List.{length-map}
use Rattle.std.proofs.lemmas.Option.{none-some, same_Some}
use Rattle.open_types.specs.Open.{Open}
use Rattle.open_types.specs.Same.{same_type}
use Rattle.open_types.specs.Laws.{SameIsEqual}
use Rattle.type_table.specs.Types.{type_at, AllBelow, IsAmongFirst, IsFound, found, AreApart}
use Rattle.type_table.proofs.Laws.{argument_within}
use Rattle.instances.specs.Lists.{IsOneOf, number_in, instance_at}
use Rattle.instances.specs.Numbers.{place_among}

-- the instance of a number is the type of its identifier
pub instance-type : (known : List Open) (ids : List ℕ) (n x : ℕ) → n < length ids → instance_at (map (type_at known) ids) n ≡ type_at known (get_or ids n x)
instance-type known [] n x l = absurd (omega (arith, l))
instance-type known (i ∷ ids) zero x l = refl
instance-type known (i ∷ ids) (suc n) x l = instance-type known ids n x (omega (arith, l))

-- where one test holds just if another does, the number is found alike
found-alike : (a b : Bool) (o p : Option ℕ) → a ≡ b → o ≡ p → cond a (Some 0) (option_map suc o) ≡ cond b (Some 0) (option_map suc p)
found-alike a b o p e f = λ i. cond (e i) (Some 0) (option_map suc (f i))

both-tests : (a b : Bool) → (a ≡ true → b ≡ true) → (b ≡ true → a ≡ true) → a ≡ b
both-tests true b f g = sym (f refl)
both-tests false true f g = g refl
both-tests false false f g = refl

-- ---- the identifier of a number

module _ (known : List Open) (ids slice : List ℕ) (is : List Open) (n id : ℕ) (below : AllBelow (length known) ids) (same : slice ≡ ids) (view : is ≡ map (type_at known) ids) (l : n < length is) (at : id ≡ get_or slice n id) where
  place : n < length ids
  place = subst (λ m. n < m) (ap length view ∙ length-map ids (type_at known)) l

  same-at : get_or ids n id ≡ id
  same-at = ap (λ xs. get_or xs n id) (sym same) ∙ sym at

  pub id-within : id < length known
  id-within = subst (λ m. m < length known) same-at (argument_within (length known) ids n id below place)

  pub id-type : type_at known id ≡ instance_at is n
  id-type = ap (type_at known) (sym same-at) ∙ sym (instance-type known ids n id place) ∙ ap (λ ts. instance_at ts n) (sym view)

-- ---- the number of a type

module _ (decided : SameIsEqual) (known : List Open) (apart : AreApart known) (t : Open) where
  pub number-found : (ids : List ℕ) (n : ℕ) → AllBelow (length known) ids → n < length known → type_at known n ≡ t → place_among ids n ≡ number_in (map (type_at known) ids) t
  number-found [] n h l e = refl
  number-found (i ∷ ids) n h l e = found-alike (n == i) (same_type t (type_at known i)) (place_among ids n) (number_in (map (type_at known) ids) t) tests (number-found ids n h.1 l e)
    where
      tests : (n == i) ≡ same_type t (type_at known i)
      tests = both-tests (n == i) (same_type t (type_at known i))
          (λ q. (decided t (type_at known i)).1 (sym e ∙ ap (type_at known) (eqb-true n i q)))
          (λ q. eq-eqb n i (apart n i l h.0 (e ∙ (decided t (type_at known i)).0 q)))

  pub number-missing : (ids : List ℕ) → AllBelow (length known) ids → ¬ IsAmongFirst known (length known) t → number_in (map (type_at known) ids) t ≡ None
  number-missing [] h none = refl
  number-missing (i ∷ ids) h none = (λ k. cond (other k) (Some 0) (option_map suc (number_in (map (type_at known) ids) t))) ∙ ap (option_map suc) (number-missing ids h.1 none)
    where
      other : same_type t (type_at known i) ≡ false
      other = by (same_type t (type_at known i)) refl
        where
          by : (b : Bool) → same_type t (type_at known i) ≡ b → b ≡ false
          by false q = refl
          by true q = absurd (none (i, h.0, sym ((decided t (type_at known i)).0 q)))

-- what was found
pub found-type : (known : List Open) (t : Open) (n : ℕ) → IsFound known t (Some n) → (n < length known) × (type_at known n ≡ t)
found-type known t n (found m l e) = (l, e)

-- ---- places that are entered from the last

-- the first place of a number in a list whose places are counted from one on
abbrev pub place_from : ℕ → List ℕ → ℕ → Option ℕ
place_from at [] n = None
place_from at (m ∷ ms) n = cond (n == m) (Some at) (place_from (suc at) ms n)

next-place : (at : ℕ) (b : Bool) (o p : Option ℕ) → o ≡ option_map suc p → cond b (Some (suc at)) o ≡ option_map suc (cond b (Some at) p)
next-place at true o p e = refl
next-place at false o p e = e

later-places : (at : ℕ) (ms : List ℕ) (n : ℕ) → place_from (suc at) ms n ≡ option_map suc (place_from at ms n)
later-places at [] n = refl
later-places at (m ∷ ms) n = next-place at (n == m) (place_from (suc (suc at)) ms n) (place_from (suc at) ms n) (later-places (suc at) ms n)

pub all-placed : (ms : List ℕ) (n : ℕ) → place_from 0 ms n ≡ place_among ms n
all-placed [] n = refl
all-placed (m ∷ ms) n = ap (cond (n == m) (Some 0)) (later-places 0 ms n ∙ ap (option_map suc) (all-placed ms n))

-- ---- instances that are there

some-later : (b : Bool) (o : Option ℕ) → IsTrue (is_some o) → IsTrue (is_some (cond b (Some 0) (option_map suc o)))
some-later true o h = refl
some-later false None h = h
some-later false (Some n) h = refl

module _ (decided : SameIsEqual) where
  pub one-found : (is : List Open) (t : Open) → IsOneOf t is → IsTrue (is_some (number_in is t))
  one-found [] t o = absurd o
  one-found (u ∷ is) t (inl e) = ap (λ b. is_some (cond b (Some 0) (option_map suc (number_in is t)))) ((decided t u).1 e)
  one-found (u ∷ is) t (inr o) = some-later (same_type t u) (number_in is t) (one-found is t o)

  pub found-one : (is : List Open) (t : Open) → IsTrue (is_some (number_in is t)) → IsOneOf t is
  found-one [] t h = absurd (false≢true h)
  found-one (u ∷ is) t h = by (same_type t u) refl (number_in is t) (found-one is t) h
    where
      by : (b : Bool) → same_type t u ≡ b → (o : Option ℕ) → (IsTrue (is_some o) → IsOneOf t is) → IsTrue (is_some (cond b (Some 0) (option_map suc o))) → IsOneOf t (u ∷ is)
      by true q o rest h = inl ((decided t u).0 q)
      by false q None rest h = absurd (false≢true h)
      by false q (Some n) rest h = inr (rest refl)

  pub number-is : (is : List Open) (t : Open) (n : ℕ) → number_in is t ≡ Some n → (n < length is) × (instance_at is n ≡ t)
  number-is [] t n e = absurd (none-some n e)
  number-is (u ∷ is) t n e = by (same_type t u) refl (number_in is t) e (number-is is t)
    where
      by : (b : Bool) → same_type t u ≡ b → (o : Option ℕ) → cond b (Some 0) (option_map suc o) ≡ Some n → ((m : ℕ) → o ≡ Some m → (m < length is) × (instance_at is m ≡ t)) → (n < suc (length is)) × (instance_at (u ∷ is) n ≡ t)
      by true q o f rest = subst (λ k. (k < suc (length is)) × (instance_at (u ∷ is) k ≡ t)) (same_Some 0 n f) (omega arith, sym ((decided t u).0 q))
      by false q None f rest = absurd (none-some n f)
      by false q (Some m) f rest = let at = rest m refl in subst (λ k. (k < suc (length is)) × (instance_at (u ∷ is) k ≡ t)) (same_Some (suc m) n f) (omega (arith, at.0), at.1)
