use Rattle.std.proofs.Common.{◌≡◌, ◌≤◌}
use Rattle.type_table.specs.Nodes.{items_of, IsTuple}
use Rattle.type_table.specs.Types.{type_at, AllBelow}
use Rattle.type_table.proofs.Chains.{behind}
use Rattle.type_table.proofs.types.Types.items.Given as goal

-- the items so far, and behind them those of the rest
abbrev pub invariant-loop-first : goal.invariant-loop-first
invariant-loop-first l = record {
  within : l.rest ≤ l.fn.tuple;
  is_tuple : IsTuple (type_at l.self l.rest);
  items : behind l.self l.items (items_of (type_at l.self l.rest)) ≡ items_of (type_at l.self l.fn.tuple);
  below : AllBelow l.fn.tuple l.items;
}

abbrev pub decreases-loop-first : goal.decreases-loop-first
decreases-loop-first l = l.rest
