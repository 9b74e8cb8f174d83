use Rattle.std.proofs.Common.{◌≡◌, drop, map}
use Rattle.open_types.specs.Open.{opens_view}
use Rattle.shapes.specs.Views.{declaration_view}
use Rattle.plainness.specs.Obstacles.{types_obstacle}
use Rattle.plainness.proofs.obstacle.+obstacle.Given as goal

-- nothing is in the way in the types before
abbrev pub invariant-types_obstacle-loop-ty : goal.invariant-types_obstacle-loop-ty
invariant-types_obstacle-loop-ty l = types_obstacle (map declaration_view l.declared) (opens_view (drop l.ty-index l.types)) ≡ types_obstacle (map declaration_view l.declared) (opens_view l.types)
