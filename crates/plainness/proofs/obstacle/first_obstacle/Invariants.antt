use Rattle.std.proofs.Common.{◌≡◌, length, Option, Ok}
use Rattle.std.specs.Fn.{FnReturnsAt}
use Rattle.plainness.specs.declared.unplain.Obstacle.{Obstacle}
use Rattle.plainness.specs.Obstacles.{first_obstacle, TellsObstacle}
use Rattle.plainness.proofs.obstacle.first_obstacle.Given as goal

-- nothing is in the way in the items before
abbrev pub invariant-items : goal.invariant-items
invariant-items g l = (o : _ → Option Obstacle) → TellsObstacle (λ x found. FnReturnsAt g.F.Fn l.obstacle_of x (Ok found)) o → first_obstacle o l.rest ≡ first_obstacle o l.items

abbrev pub decreases-items : goal.decreases-items
decreases-items g l = length l.rest
