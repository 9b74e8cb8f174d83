-- Each instance of a ring is reachable, and there are no others.
use Rattle.std.proofs.Common.{◌≡◌, ◌≤◌, ◌<◌, ℕ, zero, suc, refl, ap, subst, sym, ◌∙◌, mod-eq_of_lt, arith}
use Rattle.std.proofs.lemmas.Nat.{mod_below}
use Rattle.open_types.specs.Open.{Open, Opens, named, no_types}
use Rattle.open_types.specs.Instances.{StandsInOne, type_size}
use Rattle.shapes.specs.Declarations.{DeclarationOf, declaration_at}
use Rattle.shapes.specs.Instances.{places_at}
use Rattle.shapes.specs.InstanceShape.{IsRoot, IsReachable, root, stands}
use Rattle.instances.specs.Lists.{IsOneOf, IsWhole, AreInstances, WholeAreInstances}
use Rattle.samples.specs.Rings.{Turn, plain_struct, generic_struct, tagged_enum, turn, parameters, arguments, instance, next, ring, instances}
use Rattle.samples.proofs.Numbered.{declared, long, among, numbered, different}
use Rattle.samples.proofs.RingPlaces.{next_stands, stands_alone}

-- the number that an instance of the list has
pub of_number : (many : ℕ) (t : Open) → IsOneOf t (instances many) → (i : ℕ) × (i < many) × (t ≡ instance i)
of_number many t o = let h = numbered 0 many t o in (h.0, omega (arith, h.2), h.3)

-- what is next of a number that is not the last is the number behind it
pub next-behind : (many i : ℕ) → suc i < many → next many i ≡ suc i
next-behind many i l = mod-eq_of_lt l

-- ---- roots

parameters-of : (many d : ℕ) → d < many → (declaration_at (ring many) d).parameters ≡ parameters (turn d)
parameters-of many d l = ap (λ (s : DeclarationOf). s.parameters) (declared many d l)

-- the first declaration is a root
pub first_root : (many : ℕ) → 0 < many → IsRoot (ring many) 0
first_root many l = (subst (λ n. 0 < n) (sym (long many)) l, parameters-of many 0 l)

-- what has no parameters has no arguments
bare : (t : Turn) → parameters t ≡ 0 → arguments t ≡ no_types
bare plain_struct e = refl
bare generic_struct e = absurd (omega (arith, e))
bare tagged_enum e = refl

roots : (many d : ℕ) → IsRoot (ring many) d → IsOneOf (named d no_types) (instances many)
roots many d r =
    let l : d < many = subst (λ n. d < n) (long many) r.0 in
    let same : arguments (turn d) ≡ no_types = bare (turn d) (sym (parameters-of many d l) ∙ r.1) in
    subst (λ (ts : Opens). IsOneOf (named d ts) (instances many)) same (among many d l)

-- ---- reachable instances

reached : (many i : ℕ) → i < many → IsReachable (ring many) (instance i)
reached many zero l = root 0 (first_root many l)
reached many (suc i) l =
    let before : i < many = omega arith in
    let behind = subst (λ j. StandsInOne (instance j) (places_at (ring many) (instance i))) (next-behind many i l) (next_stands many i before) in
    stands (instance i) (instance (suc i)) (reached many i before) behind

all_reached : (many : ℕ) (t : Open) → IsOneOf t (instances many) → IsReachable (ring many) t
all_reached many t o = let h = of_number many t o in subst (IsReachable (ring many)) (sym h.2) (reached many h.0 h.1)

whole : (many : ℕ) → 0 < many → IsWhole (ring many) (instances many)
whole many some = record { roots = roots many; places = placed }
  where
    placed : (t u : Open) → IsOneOf t (instances many) → StandsInOne u (places_at (ring many) t) → IsOneOf u (instances many)
    placed t u o h =
        let i = of_number many t o in
        let alone = stands_alone many i.0 u i.1 (subst (λ v. StandsInOne u (places_at (ring many) v)) i.2 h) in
        subst (λ v. IsOneOf v (instances many)) (sym alone) (among many (next many i.0) (mod_below (suc i.0) many some))

-- the list has each reachable instance once
pub are_instances : WholeAreInstances → (many : ℕ) → 0 < many → AreInstances (ring many) (instances many)
are_instances law many some = law (ring many) (instances many) (all_reached many) (different 0 many) (whole many some)

-- ---- size

small : (i : ℕ) (t : Turn) → type_size (named i (arguments t)) ≤ 2
small i plain_struct = omega arith
small i generic_struct = omega arith
small i tagged_enum = omega arith

-- each is of one node or two
pub all_small : (many : ℕ) (t : Open) → IsOneOf t (instances many) → type_size t ≤ 2
all_small many t o = let i = of_number many t o in subst (λ u. type_size u ≤ 2) (sym i.2) (small i.0 (turn i.0))
