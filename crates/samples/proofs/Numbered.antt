-- The declarations and the instances of a ring, by number.
use Rattle.std.proofs.Common.{◌≡◌, ◌≤◌, ◌<◌, ◌+◌, ℕ, zero, suc, length, map, get_or, ap, subst, ◌∙◌, inl, inr, arith}
use Rattle.std.proofs.lemmas.List.FromFn.{length-range_with_len, get_or-range_with_len, length-map-range_with_len, get_or-map-range_with_len}
use Rattle.std.specs.List.{range_with_len}
use Rattle.open_types.specs.Open.{Open, unit}
use Rattle.open_types.specs.Instances.{declared_place}
use Rattle.shapes.specs.Declarations.{declaration_at}
use Rattle.instances.specs.Lists.{IsOneOf, instance_at, AreDifferent}
use Rattle.instances.proofs.Laws.{at-one, declared-at}
use Rattle.samples.specs.Rings.{instance, declaration, numbers, ring, instances}

-- the declaration of a number stands at its place
pub declared : (many i : ℕ) → i < many → declaration_at (ring many) i ≡ declaration many i
declared many i l =
    let within : i < length (numbers many) = omega (arith, length-range_with_len 0 many) in
    let here : get_or (numbers many) i 0 ≡ i = omega (arith, get_or-range_with_len 0 many i 0 l) in
    declared-at (declaration many) (numbers many) i 0 within ∙ ap (declaration many) here

-- the ring has as many declarations as that
pub long : (many : ℕ) → length (ring many) ≡ many
long many = length-map-range_with_len (declaration many) 0 many

-- the instance of a number is in the list
pub among : (many i : ℕ) → i < many → IsOneOf (instance i) (instances many)
among many i l =
    let within : i < length (instances many) = omega (arith, length-map-range_with_len instance 0 many) in
    let here : instance_at (instances many) i ≡ instance i = get_or-map-range_with_len instance 0 many i i unit l (omega arith) in
    subst (λ t. IsOneOf t (instances many)) here (at-one (instances many) i within)

-- what is in a list of instances by number has one of the numbers
pub numbered : (a n : ℕ) (t : Open) → IsOneOf t (map instance (range_with_len a n)) → (i : ℕ) × (a ≤ i) × (i < a + n) × (t ≡ instance i)
numbered a zero t o = absurd o
numbered a (suc n) t (inl e) = (a, omega arith, omega arith, e)
numbered a (suc n) t (inr o) = let h = numbered (a + 1) n t o in (h.0, omega (arith, h.1), omega (arith, h.2), h.3)

-- the number is told by the instance
same_number : (i j : ℕ) → instance i ≡ instance j → i ≡ j
same_number i j e = ap declared_place e

-- instances of different numbers differ
pub different : (a n : ℕ) → AreDifferent (map instance (range_with_len a n))
different a zero = tt
different a (suc n) = (λ o. later (numbered (a + 1) n (instance a) o), different (a + 1) n)
  where
    later : (i : ℕ) × (a + 1 ≤ i) × (i < a + 1 + n) × (instance a ≡ instance i) → ⊥
    later h = let e : a ≡ h.0 = same_number a h.0 h.3 in omega (arith, h.1)
