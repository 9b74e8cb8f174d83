use Rattle.std.proofs.Common.{◌≡◌, take}
use Rattle.inlining.specs.Marks.{next_marks}
use Rattle.inlining.proofs.order.next_marks.Given as goal

-- the marks of the instances so far
abbrev pub invariant-loop-of : goal.invariant-loop-of
invariant-loop-of l = l.next ≡ next_marks (take l.of-index l.targets) l.marks
