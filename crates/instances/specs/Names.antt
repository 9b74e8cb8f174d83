-- The names of instances, and two instances of one name.
use Rattle.std.specs.Prelude.{◌≡◌, ◌<◌, ℕ, List, length, map}
use Rattle.texts.specs.Names.{IsDistinct}
use Rattle.open_types.specs.Open.{Open}
use Rattle.shapes.specs.Declarations.{DeclarationOf}
use Rattle.shapes.specs.InstanceShape.{IsReachable}
use Rattle.shapes.specs.InstanceNames.{instance_name}
use Rattle.instances.specs.Lists.{instance_at, AreInstances}

abbrev pub instance_names : List DeclarationOf → List Open → List (List ℕ)
instance_names ss is = map (instance_name ss) is

-- two reachable instances of one name are one
abbrev pub NamesDiffer : List DeclarationOf → Type 0
NamesDiffer ss = (t u : Open) → IsReachable ss t → IsReachable ss u → instance_name ss t ≡ instance_name ss u → t ≡ u

-- two numbers have one name
abbrev pub IsClash : List DeclarationOf → List Open → ℕ → ℕ → Type 0
IsClash ss is m n = (m < n) × (n < length is) × (instance_name ss (instance_at is m) ≡ instance_name ss (instance_at is n))

-- The law: where the names of all instances are distinct, reachable instances of one name are one.
abbrev pub DistinctNamesDiffer : Type 0
DistinctNamesDiffer = (ss : List DeclarationOf) (is : List Open) → AreInstances ss is → IsDistinct (instance_names ss is) → NamesDiffer ss

-- The law: the instances of two numbers are reachable, and differ.
abbrev pub NumbersDiffer : Type 0
NumbersDiffer = (ss : List DeclarationOf) (is : List Open) → AreInstances ss is → (m n : ℕ) → m < n → n < length is →
    IsReachable ss (instance_at is m) × IsReachable ss (instance_at is n) × ¬ (instance_at is m ≡ instance_at is n)
