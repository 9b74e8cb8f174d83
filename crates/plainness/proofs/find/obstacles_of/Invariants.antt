use Rattle.std.proofs.Common.{◌≡◌, map, take}
use Rattle.shapes.specs.Instances.{body_at}
use Rattle.shapes.specs.Views.{declaration_view}
use Rattle.plainness.specs.Obstacles.{body_obstacle}
use Rattle.plainness.proofs.find.obstacles_of.Given as goal

-- what is in the way in the bodies of the instances so far
abbrev pub invariant-loop-number : goal.invariant-loop-number
invariant-loop-number l =
    let ss = map declaration_view l.declared in
    l.obstacles ≡ map (λ t. body_obstacle ss (body_at ss t)) (take l.number l.reach)
