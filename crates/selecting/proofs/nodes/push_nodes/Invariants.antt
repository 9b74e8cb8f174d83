use Rattle.std.proofs.Common.{◌≡◌, ◌++◌, length}
use Rattle.reaching.specs.Reached.{nodes_of}
use Rattle.selecting.proofs.nodes.push_nodes.Given as goal

abbrev pub invariant-nodes : goal.invariant-nodes
invariant-nodes l = nodes_of l.nodes ++ l.rest ≡ nodes_of l.initial.nodes ++ l.more

abbrev pub decreases-nodes : goal.decreases-nodes
decreases-nodes l = length l.rest
