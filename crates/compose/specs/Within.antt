-- Instances within their bounds.
use Rattle.std.specs.Prelude.{◌≡◌, ◌<◌, ℕ, List, Bool, length, map, IsTrue}
use Rattle.component.specs.Leaves.{term_view}
use Rattle.shapes.specs.Declarations.{DeclarationOf}
use Rattle.terms.specs.InstanceTerms.{instance_term}
use Rattle.inlining.specs.Inlining.{IsAmong, AreOnce, IsOrder}
use Rattle.inlining.specs.Marks.{mark}
use Rattle.inlining.specs.declared.shown.Shown.{Shown}
use Rattle.open_types.specs.Open.{Open}
use Rattle.instances.specs.Lists.{instance_at, AreInstances}
use Rattle.instances.specs.Names.{NamesDiffer, instance_names}
use Rattle.closing.specs.Described.{AreShallow}
use Rattle.closing.specs.Links.{inlining_of, AreComponentsOf}
use Rattle.closing.specs.Made.{AreAlong}
use Rattle.compose.specs.declared.within.Bounded.{Bounded}

-- What is shown of the instances is marked, and its targets are; the components are those of the instances; the order has each behind its targets.
pub record AreShown (ss : List DeclarationOf) (all : Bool) (is : List Open) (ordered : List ℕ) (found : Shown) : Type 0 where
  pub order : IsOrder (inlining_of ss is) ordered
  pub marked : length found.marks ≡ length is
  pub along : AreAlong found.marks (inlining_of ss is)
  pub shown : (n : ℕ) → IsAmong n found.components → IsTrue (mark found.marks n)
  pub inside : (n : ℕ) → IsAmong n found.components → n < length is
  pub once : AreOnce found.components
  pub components : AreComponentsOf ss all (map (instance_at is) found.components)

-- The instances are those of the declarations, with their names, their terms and their targets, and with what is shown of them.
pub record AreWithin (ss : List DeclarationOf) (b : Bounded) : Type 0 where
  pub instances : AreInstances ss b.reach
  pub differ : NamesDiffer ss
  pub shallow : AreShallow ss
  pub names : b.names ≡ instance_names ss b.reach
  pub terms : map term_view b.terms.items ≡ map (instance_term ss) b.reach
  pub targets : b.links.targets ≡ inlining_of ss b.reach
  pub shown : AreShown ss b.all b.reach b.order b.shown
