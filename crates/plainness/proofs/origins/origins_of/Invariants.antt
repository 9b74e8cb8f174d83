use Rattle.std.proofs.Common.{◌≡◌, ◌-◌, length, map, is_some}
use Rattle.inlining.specs.Found.{AreFound}
use Rattle.plainness.proofs.Leading.{IsWalked}
use Rattle.plainness.proofs.origins.origins_of.Given as goal

-- the walk went over what was found before the place
abbrev pub invariant-loop-place : goal.invariant-loop-place
invariant-loop-place l = record {
  many : length l.walk.origins.items ≡ length l.edges;
  found : AreFound (map is_some l.walk.origins.items) l.walk.numbers;
  walked : IsWalked l.edges l.targets l.obstacles l.place l.walk.origins.items l.walk.numbers;
}

abbrev pub decreases-loop-place : goal.decreases-loop-place
decreases-loop-place l = length l.edges - l.place
