-- Sets of terms and of instances, of one source.
use Rattle.std.specs.Prelude.{◌≡◌, List, map}
use Rattle.syntax.specs.Items.{DeclaredItem}
use Rattle.scopes.specs.Names.{declared_idents}
use Rattle.configuration.specs.Configuration.{Configuration}
use Rattle.shapes.specs.Declarations.{DeclarationOf}
use Rattle.shapes.specs.Views.{declaration_view}
use Rattle.inlining.specs.Inlining.{IsOrder}
use Rattle.instances.specs.Lists.{AreInstances}
use Rattle.instances.specs.Names.{instance_names}
use Rattle.closing.specs.Links.{inlining_of}
use Rattle.closing.specs.Described.{AreShallow}
use Rattle.compose.specs.Settled.{IsSettled}
use Rattle.compose.specs.declared.sets.TermSet.{TermSet}
use Rattle.compose.specs.declared.sets.InstanceSet.{InstanceSet}

-- the declarations of a set of terms
abbrev pub declarations_of : TermSet → List DeclarationOf
declarations_of terms = map declaration_view terms.resolved

-- The terms are those of declarations in which nothing is at fault.
pub record AreTermsOf (c : Configuration) (ds : List DeclaredItem) (terms : TermSet) : Type 0 where
  pub settled : IsSettled c ds (declarations_of terms)
  pub idents : terms.idents ≡ declared_idents ds

-- The instances are those that the declarations reach, with their names and the numbers of those whose schemas stand in their own, and in an order in which each stands behind these; no inline path is longer than it may be.
pub record AreInstancesOf (ss : List DeclarationOf) (set : InstanceSet) : Type 0 where
  pub instances : AreInstances ss set.reach
  pub names : set.names ≡ instance_names ss set.reach
  pub shallow : AreShallow ss
  pub targets : set.targets ≡ inlining_of ss set.reach
  pub order : IsOrder (inlining_of ss set.reach) set.order
