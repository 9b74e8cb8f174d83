use Rattle.std.proofs.Common.{take}
use Rattle.plainness.specs.Edges.{AreAdded}
use Rattle.plainness.proofs.turned.add_to.Given as goal

-- it is added at the places so far
abbrev pub invariant-loop-place : goal.invariant-loop-place
invariant-loop-place l = AreAdded l.fn.lists (take l.place-index l.places) l.number l.lists
