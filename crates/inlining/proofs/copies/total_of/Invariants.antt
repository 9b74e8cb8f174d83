use Rattle.std.proofs.Common.{◌≡◌, slice_index, take}
use Rattle.inlining.specs.Counts.{saturated}
use Rattle.inlining.specs.Inlining.{sum_of}
use Rattle.inlining.proofs.copies.total_of.Given as goal

-- the counts so far
abbrev pub invariant-loop-number : goal.invariant-loop-number
invariant-loop-number l = l.total ≡ saturated (sum_of (slice_index l.counts) (take l.number-index l.counted))
