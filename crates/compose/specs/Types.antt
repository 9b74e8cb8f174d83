-- The types of components: the instances that have their names.
use Rattle.std.specs.Prelude.{◌≡◌, ℕ, List, map, Bool}
use Rattle.std.specs.List.{AllByRecursion}
use Rattle.open_types.specs.Open.{Open}
use Rattle.shapes.specs.Declarations.{DeclarationOf}
use Rattle.shapes.specs.InstanceNames.{instance_name}
use Rattle.closing.specs.Links.{IsComponent}

-- The types are components, which have these names, in order.
pub record AreTypesOf (ss : List DeclarationOf) (all : Bool) (names : List (List ℕ)) (types : List Open) : Type 0 where
  pub components : AllByRecursion (IsComponent ss all) types
  pub names_are : map (instance_name ss) types ≡ names
