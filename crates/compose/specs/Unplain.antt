-- Which instances of declarations are not plain.
use Rattle.std.specs.Prelude.{◌≡◌, ◌<◌, ℕ, List, Some}
use Rattle.std.specs.List.{AllByRecursion}
use Rattle.configuration.specs.Configuration.{Configuration}
use Rattle.syntax.specs.Items.{DeclaredItem}
use Rattle.open_types.specs.Open.{Open}
use Rattle.shapes.specs.Declarations.{DeclarationOf}
use Rattle.derive_decl.specs.Whole.{resolved_declarations}
use Rattle.instances.specs.Lists.{AreInstances}
use Rattle.plainness.specs.Unplain.{AreUnplain}
use Rattle.plainness.specs.declared.unplain.Unplain.{Unplain}

-- Of the instances that the declarations reach, these are not plain.
pub record AreUnplainOf (c : Configuration) (ds : List DeclaredItem) (us : List Unplain) : Type 0 where
  pub resolved : List DeclarationOf
  pub resolves : resolved_declarations c ds ≡ Some resolved
  pub instances : List Open
  pub reached : AreInstances resolved instances
  pub unplain : AreUnplain resolved instances us

-- the declaration of each is one of so many
abbrev pub AreDeclaredIn : ℕ → List Unplain → Type 0
AreDeclaredIn many us = AllByRecursion (λ u. u.declaration < many) us
