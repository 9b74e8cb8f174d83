-- Each instance of a ring is a component.
use Rattle.std.proofs.Common.{◌<◌, ℕ, zero, suc, Bool, subst, sym, arith}
use Rattle.open_types.specs.Open.{Open}
use Rattle.instances.specs.Lists.{IsOneOf, AreInstances}
use Rattle.closing.specs.Links.{IsShown, shown_root, shown_referred, IsComponent, root_component, referred_component, AreComponentsOf, ComponentsAreReachable, references_at}
use Rattle.samples.specs.Rings.{instance, ring, instances}
use Rattle.samples.proofs.Linked.{next_referred}
use Rattle.samples.proofs.Numbered.{different}
use Rattle.samples.proofs.Reached.{of_number, next-behind, first_root}

module _ (many : ℕ) (all : Bool) where
  behind-referred : (i : ℕ) → suc i < many → IsOneOf (instance (suc i)) (references_at (ring many) (instance i))
  behind-referred i l = subst (λ j. IsOneOf (instance j) (references_at (ring many) (instance i))) (next-behind many i l) (next_referred many i (omega arith))

  shown : (i : ℕ) → i < many → IsShown (ring many) all (instance i)
  shown zero l = shown_root 0 (first_root many l)
  shown (suc i) l = shown_referred (instance i) (instance (suc i)) (shown i (omega arith)) (behind-referred i l)

  component : (i : ℕ) → i < many → IsComponent (ring many) all (instance i)
  component zero l = root_component 0 (first_root many l)
  component (suc i) l = referred_component (instance i) (instance (suc i)) (shown i (omega arith)) (behind-referred i l)

  each : (t : Open) → IsOneOf t (instances many) → IsComponent (ring many) all t
  each t o = let i = of_number many t o in subst (IsComponent (ring many) all) (sym i.2) (component i.0 i.1)

  -- the list has each component once
  pub are_components : ComponentsAreReachable → AreInstances (ring many) (instances many) → AreComponentsOf (ring many) all (instances many)
  are_components law are = record {
    once = different 0 many;
    are = each;
    whole = λ t c. are.all t (law (ring many) all t c);
  }
