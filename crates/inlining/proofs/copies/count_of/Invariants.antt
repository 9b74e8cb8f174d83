use Rattle.std.proofs.Common.{◌≡◌, take}
use Rattle.inlining.specs.Counts.{count_of}
use Rattle.inlining.proofs.copies.count_of.Given as goal

-- itself, and the counts of the targets so far
abbrev pub invariant-loop-target : goal.invariant-loop-target
invariant-loop-target l = l.count ≡ count_of l.counts (take l.target-index l.targets)
