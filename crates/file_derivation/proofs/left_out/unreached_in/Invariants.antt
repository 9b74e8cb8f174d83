use Rattle.std.proofs.Common.{◌≡◌, ◌++◌, length, map}
use Rattle.std.specs.List.{flat_map}
use Rattle.reaching.specs.Reached.{nodes_of}
use Rattle.file_derivation.specs.OutNodes.{needs_nodes, out_nodes}
use Rattle.file_derivation.proofs.left_out.unreached_in.Given as goal

abbrev pub invariant-items : goal.invariant-items
invariant-items l = nodes_of l.nodes ++ flat_map needs_nodes (map (λ i. i.now) l.rest) ≡ out_nodes (map (λ i. i.now) l.items) l.judged

abbrev pub decreases-items : goal.decreases-items
decreases-items l = length l.rest
