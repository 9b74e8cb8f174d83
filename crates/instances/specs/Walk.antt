-- What a walk over instances finds, and why it may end before.
use Rattle.std.specs.Prelude.{◌≡◌, ◌<◌, ◌≤◌, ℕ, List, length}
use Rattle.open_types.specs.Open.{Open}
use Rattle.open_types.specs.Instances.{declared_place, type_size}
use Rattle.shapes.specs.Declarations.{DeclarationOf}
use Rattle.shapes.specs.InstanceShape.{IsReachable}
use Rattle.instances.specs.Lists.{IsOneOf, AreDifferent, AreInstances}
use Rattle.instances.specs.declared.walk.WalkError.{WalkError}
use Rattle.instances.specs.declared.walk.WalkError.TheVariants.{Memory, TooMany, TooLarge}

-- The reachable instances, of which there are no more than the limit, each of no more names than most.
pub record AreReached (ss : List DeclarationOf) (limit most : ℕ) (is : List Open) : Type 0 where
  pub instances : AreInstances ss is
  pub few : length is ≤ limit
  pub small : (t : Open) → IsReachable ss t → type_size t ≤ most

-- more different instances are reachable than the limit
abbrev pub AreCrowded : List DeclarationOf → ℕ → Type 0
AreCrowded ss limit = (is : List Open) × AreDifferent is × ((t : Open) → IsOneOf t is → IsReachable ss t) × (limit < length is)

-- the place is that of the declaration of a reachable instance
abbrev pub IsPlaceOf : List DeclarationOf → (Open → Type 0) → ℕ → Type 0
IsPlaceOf ss holds place = (t : Open) × IsReachable ss t × holds t × (declared_place t ≡ place)

-- The error has its cause: more instances than the limit, or one of more names than most; the place is that of the declaration of one.
abbrev pub IsWalkError : List DeclarationOf → (limit most : ℕ) → WalkError → Type 0
IsWalkError ss limit most Memory = Unit {0}
IsWalkError ss limit most (TooMany place) = AreCrowded ss limit × IsPlaceOf ss (λ t. Unit {0}) place
IsWalkError ss limit most (TooLarge place) = IsPlaceOf ss (λ t. most < type_size t) place
