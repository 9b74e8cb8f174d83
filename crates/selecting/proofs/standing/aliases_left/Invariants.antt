use Rattle.std.proofs.Common.{◌≡◌, ◌++◌, length, map}
use Rattle.selecting.specs.Standing.{aliases_left}
use Rattle.selecting.proofs.standing.aliases_left.Given as goal

abbrev pub invariant-aliases : goal.invariant-aliases
invariant-aliases l = map (λ a. a.now) l.left ++ aliases_left l.selection l.names l.rest ≡ aliases_left l.selection l.names l.aliases

abbrev pub decreases-aliases : goal.decreases-aliases
decreases-aliases l = length l.rest
