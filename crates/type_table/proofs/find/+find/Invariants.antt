use Rattle.std.proofs.Common.{◌≤◌, length, drop, Some}
use Rattle.open_types.specs.Open.{tuple, opens_view}
use Rattle.type_table.specs.Types.{IsFound}
use Rattle.type_table.proofs.find.+find.Given as goal

-- the number is that of the tuple of the items behind
abbrev pub invariant-find_types-loop-left : goal.invariant-find_types-loop-left
invariant-find_types-loop-left l = record {
  left : l.left ≤ length l.items;
  found : IsFound l.types (tuple (opens_view (drop l.left l.items))) (Some l.list);
}

abbrev pub decreases-find_types-loop-left : goal.decreases-find_types-loop-left
decreases-find_types-loop-left l = l.left
