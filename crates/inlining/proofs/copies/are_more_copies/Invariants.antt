use Rattle.std.proofs.Common.{◌≡◌, length, take}
use Rattle.inlining.proofs.Counts.{AreCounted}
use Rattle.inlining.proofs.copies.are_more_copies.Given as goal

-- the copies of the instances so far are counted
abbrev pub invariant-loop-place : goal.invariant-loop-place
invariant-loop-place l = record {
  many : length l.counts.items ≡ length l.targets;
  counted : AreCounted l.targets l.most l.counts.items (take l.place-index l.order);
}
