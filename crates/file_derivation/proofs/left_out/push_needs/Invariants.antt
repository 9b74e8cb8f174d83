use Rattle.std.proofs.Common.{◌≡◌, ◌++◌, length, map}
use Rattle.reaching.specs.Reached.{nodes_of}
use Rattle.file_derivation.specs.OutNodes.{needs_node, needs_nodes}
use Rattle.file_derivation.proofs.left_out.push_needs.Given as goal

abbrev pub invariant-names : goal.invariant-names
invariant-names l = nodes_of l.nodes ++ map (needs_node l.item) l.rest ≡ nodes_of l.fn.nodes ++ needs_nodes l.item

abbrev pub decreases-names : goal.decreases-names
decreases-names l = length l.rest
