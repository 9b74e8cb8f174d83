use Rattle.std.proofs.Common.{ℕ, ◌<◌, IsTrue}
use Rattle.inlining.specs.Marks.{mark}
use Rattle.inlining.proofs.order.unmarked.Given as goal

-- the instances so far are marked
abbrev pub invariant-loop-place : goal.invariant-loop-place
invariant-loop-place l = (d : ℕ) → d < l.place → IsTrue (mark l.marks d)
