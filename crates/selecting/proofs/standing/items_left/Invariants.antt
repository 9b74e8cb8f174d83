use Rattle.std.proofs.Common.{◌≡◌, ◌++◌, length, map}
use Rattle.selecting.specs.Standing.{items_left}
use Rattle.selecting.proofs.standing.items_left.Given as goal

abbrev pub invariant-items : goal.invariant-items
invariant-items l = map (λ i. i.now) l.left ++ items_left l.selection l.names l.rest ≡ items_left l.selection l.names l.items

abbrev pub decreases-items : goal.decreases-items
decreases-items l = length l.rest
