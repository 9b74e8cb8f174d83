-- What in a body its schema cannot say whole keeps it from being plain, and nothing else does.
use Rattle.std.specs.Prelude.{◌≡◌, ◌↔◌, List, None}
use Rattle.shapes.specs.Declarations.{BodyOf, DeclarationOf}
use Rattle.shapes.specs.Plain.{IsPlainBody}
use Rattle.plainness.specs.Obstacles.{body_obstacle}

-- The law: a body is plain exactly if nothing is in the way.
abbrev pub ObstaclesAreExact : Type 0
ObstaclesAreExact = (ss : List DeclarationOf) (body : BodyOf) → (body_obstacle ss body ≡ None) ↔ IsPlainBody ss body
