use Rattle.std.proofs.Common.{◌≡◌, ◌-◌, length}
use Rattle.inlining.specs.Found.{AreFound}
use Rattle.inlining.proofs.Walks.{IsWalked}
use Rattle.inlining.proofs.shown.find.Given as goal

-- the walk went over what was found before the place
abbrev pub invariant-loop-place : goal.invariant-loop-place
invariant-loop-place l = record {
  many : length l.found.marks.items ≡ length l.targets;
  found : AreFound l.found.marks.items l.found.numbers;
  many_parts : length l.components.marks.items ≡ length l.targets;
  parts : AreFound l.components.marks.items l.components.numbers;
  walked : IsWalked l.first l.targets l.references l.place l.found.numbers l.components.numbers;
}

abbrev pub decreases-loop-place : goal.decreases-loop-place
decreases-loop-place l = length l.targets - l.place
