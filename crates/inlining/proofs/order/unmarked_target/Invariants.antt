use Rattle.std.proofs.Common.{take, IsTrue}
use Rattle.inlining.specs.Marks.{are_marked}
use Rattle.inlining.proofs.order.unmarked_target.Given as goal

-- the targets so far are marked
abbrev pub invariant-loop-target : goal.invariant-loop-target
invariant-loop-target l = IsTrue (are_marked l.marks (take l.target-index l.targets))
