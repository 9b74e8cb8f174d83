use Rattle.std.proofs.Common.{◌≡◌, ◌++◌}
use Rattle.inlining.specs.Marks.{new_marks}
use Rattle.inlining.proofs.order.push_marked.Given as goal

-- the new ones so far stand at the end
abbrev pub invariant-loop-place : goal.invariant-loop-place
invariant-loop-place l = l.order ≡ l.initial.order ++ new_marks l.before l.marks l.place
