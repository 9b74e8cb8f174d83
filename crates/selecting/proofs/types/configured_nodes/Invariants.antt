use Rattle.std.proofs.Common.{◌≡◌, map, take}
use Rattle.selecting.specs.Selected.{configured_node}
use Rattle.selecting.proofs.types.configured_nodes.Given as goal

abbrev pub invariant-loop-at : goal.invariant-loop-at
invariant-loop-at l = l.nodes ≡ map configured_node (take l.at l.config.aliases)
