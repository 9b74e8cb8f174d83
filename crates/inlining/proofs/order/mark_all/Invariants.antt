use Rattle.std.proofs.Common.{◌≡◌, ◌+◌, [], length}
use Rattle.inlining.specs.Inlining.{AreBehind, AreOnce}
use Rattle.inlining.specs.Marks.{marks_of, AreRounds}
use Rattle.inlining.proofs.Once.{AreMarked}
use Rattle.inlining.proofs.Orders.{AreOrdered}
use Rattle.inlining.proofs.order.mark_all.Given as goal

-- the rounds so far, and each instance that is marked once, behind its targets
abbrev pub invariant-loop-round : goal.invariant-loop-round
invariant-loop-round l = record {
  many : length l.rounds ≡ l.round + 1;
  rounds : AreRounds l.targets l.rounds;
  ordered : AreOrdered l.targets (marks_of l.targets l.round) l.order;
  marked : AreMarked (marks_of l.targets l.round) l.order;
  once : AreOnce l.order;
  behind : AreBehind l.targets [] l.order;
}
