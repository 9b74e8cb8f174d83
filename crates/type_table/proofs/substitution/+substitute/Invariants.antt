use Rattle.std.proofs.Common.{◌≡◌, ◌<◌, ◌≤◌, length, drop}
use Rattle.open_types.specs.Open.{tuple, opens_view, all_substituted}
use Rattle.type_table.specs.Types.{type_at, types_at, IsFront, AllBelow}
use Rattle.type_table.proofs.substitution.+substitute.Given as goal

-- the list has the items that stand behind
abbrev pub invariant-substitute_types-loop-left : goal.invariant-substitute_types-loop-left
invariant-substitute_types-loop-left l = record {
  left : l.left ≤ length l.items;
  front : IsFront l.fn.types l.types;
  numbers : AllBelow (length l.types) l.arguments;
  same : types_at l.types l.arguments ≡ types_at l.fn.types l.arguments;
  within : l.list < length l.types;
  value : type_at l.types l.list ≡ tuple (all_substituted (types_at l.fn.types l.arguments) (opens_view (drop l.left l.items)));
}

abbrev pub decreases-substitute_types-loop-left : goal.decreases-substitute_types-loop-left
decreases-substitute_types-loop-left l = l.left
