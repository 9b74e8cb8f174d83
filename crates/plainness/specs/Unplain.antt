-- Which instances are not plain, and why.
use Rattle.std.specs.Prelude.{◌≡◌, List, [], ◌∷◌, Some, None}
use Rattle.open_types.specs.Open.{Open}
use Rattle.open_types.specs.Instances.{declared_place}
use Rattle.shapes.specs.Declarations.{DeclarationOf}
use Rattle.shapes.specs.InstanceNames.{instance_name}
use Rattle.shapes.specs.InstanceShape.{Reaches as ReachesInstance, IsPlain}
use Rattle.shapes.specs.Instances.{body_at}
use Rattle.plainness.specs.Obstacles.{body_obstacle}
use Rattle.plainness.specs.declared.unplain.Reason.{Reason}
use Rattle.plainness.specs.declared.unplain.Reason.TheVariants.{Body, Reaches}
use Rattle.plainness.specs.declared.unplain.Unplain.{Unplain}

-- the reason holds of the instance: this is in its own body; or nothing is, and it reaches an instance of this name in whose body something is
abbrev pub IsReason : List DeclarationOf → Open → Reason → Type 0
IsReason ss t (Body obstacle) = body_obstacle ss (body_at ss t) ≡ Some obstacle
IsReason ss t (Reaches name) = (body_obstacle ss (body_at ss t) ≡ None) × (u : Open) × ReachesInstance ss t u × ¬ (body_obstacle ss (body_at ss u) ≡ None) × (name ≡ instance_name ss u)

-- the instance is not plain, for a reason that holds of it, and is told by its declaration and its name
pub record IsUnplain (ss : List DeclarationOf) (t : Open) (u : Unplain) : Type 0 where
  pub not_plain : ¬ (IsPlain ss t)
  pub declaration : u.declaration ≡ declared_place t
  pub name : u.name ≡ instance_name ss t
  pub reason : IsReason ss t u.reason

-- Of the instances these are not plain, in order.
pub data AreUnplain (ss : List DeclarationOf) : List Open → List Unplain → Type 0 where
  no_instances : AreUnplain ss [] []
  one_plain : {t : Open} {ts : List Open} {us : List Unplain} → IsPlain ss t → AreUnplain ss ts us → AreUnplain ss (t ∷ ts) us
  one_unplain : {t : Open} {ts : List Open} {us : List Unplain} {u : Unplain} → IsUnplain ss t u → AreUnplain ss ts us → AreUnplain ss (t ∷ ts) (u ∷ us)
