use Rattle.plainness.proofs.Turning.{AreTurnedBelow}
use Rattle.plainness.proofs.turned.turned.Given as goal

-- the edges of the numbers so far are turned round
abbrev pub invariant-loop-from : goal.invariant-loop-from
invariant-loop-from l = AreTurnedBelow l.edges l.from l.turned.items
