use Rattle.std.proofs.Common.{◌≡◌, map, take}
use Rattle.shapes.specs.Views.{declaration_view}
use Rattle.plainness.specs.Edges.{edges_at}
use Rattle.plainness.proofs.edges.edges_of.Given as goal

-- the edges of the instances so far
abbrev pub invariant-loop-number : goal.invariant-loop-number
invariant-loop-number l = l.edges ≡ map (edges_at (map declaration_view l.declared) l.reach) (take l.number l.reach)
