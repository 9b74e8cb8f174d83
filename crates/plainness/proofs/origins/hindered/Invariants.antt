use Rattle.std.proofs.Common.{◌≡◌, length, map, is_some}
use Rattle.inlining.specs.Found.{AreFound}
use Rattle.plainness.proofs.Leading.{AreOwn}
use Rattle.plainness.proofs.origins.hindered.Given as goal

-- those of the numbers so far
abbrev pub invariant-loop-number : goal.invariant-loop-number
invariant-loop-number l = record {
  many : length l.walk.origins.items ≡ length l.obstacles;
  found : AreFound (map is_some l.walk.origins.items) l.walk.numbers;
  own : AreOwn l.obstacles l.number l.walk.origins.items l.walk.numbers;
}
