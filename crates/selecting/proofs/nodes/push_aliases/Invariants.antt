use Rattle.std.proofs.Common.{◌≡◌, ◌++◌, length, map}
use Rattle.reaching.specs.Reached.{nodes_of}
use Rattle.selecting.specs.Selected.{alias_node}
use Rattle.selecting.proofs.nodes.push_aliases.Given as goal

abbrev pub invariant-aliases : goal.invariant-aliases
invariant-aliases l = nodes_of l.nodes ++ map alias_node (map (λ a. a.now) l.rest) ≡ nodes_of l.initial.nodes ++ map alias_node (map (λ a. a.now) l.aliases)

abbrev pub decreases-aliases : goal.decreases-aliases
decreases-aliases l = length l.rest
