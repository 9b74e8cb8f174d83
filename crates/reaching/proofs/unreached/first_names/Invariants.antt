use Rattle.std.proofs.Common.{◌≡◌, ◌++◌, length}
use Rattle.reaching.specs.Reached.{nodes_of}
use Rattle.reaching.specs.Taken.{texts_of, first_names}
use Rattle.reaching.proofs.unreached.first_names.Given as goal

abbrev pub invariant-nodes : goal.invariant-nodes
invariant-nodes l = texts_of l.names ++ first_names (nodes_of l.rest) ≡ first_names (nodes_of l.nodes)

abbrev pub decreases-nodes : goal.decreases-nodes
decreases-nodes l = length l.rest
