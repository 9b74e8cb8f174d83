use Rattle.std.proofs.Common.{◌≡◌, ◌++◌, length, map}
use Rattle.reaching.specs.Reached.{nodes_of}
use Rattle.selecting.specs.Selected.{item_node}
use Rattle.selecting.proofs.nodes.push_items.Given as goal

abbrev pub invariant-items : goal.invariant-items
invariant-items l = nodes_of l.nodes ++ map (item_node l.selection) (map (λ i. i.now) l.rest) ≡ nodes_of l.initial.nodes ++ map (item_node l.selection) (map (λ i. i.now) l.items)

abbrev pub decreases-items : goal.decreases-items
decreases-items l = length l.rest
