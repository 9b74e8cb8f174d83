use Rattle.std.proofs.Common.{◌≡◌, take}
use Rattle.inlining.specs.Marks.{no_marks}
use Rattle.inlining.proofs.order.no_marks.Given as goal

-- no marks for the instances so far
abbrev pub invariant-loop : goal.invariant-loop
invariant-loop l = l.marks ≡ no_marks (take l.counter l.targets)
