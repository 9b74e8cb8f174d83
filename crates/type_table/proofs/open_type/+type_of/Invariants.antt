use Rattle.std.proofs.Common.{◌≡◌, ◌+◌, ◌*◌, map, take}
use Rattle.open_types.specs.Open.{open_view}
use Rattle.type_table.specs.Types.{type_at}
use Rattle.type_table.proofs.open_type.+type_of.Given as goal

abbrev pub decreases-open_type : goal.decreases-open_type
decreases-open_type l = 2 * l.id + 1

abbrev pub decreases-open_types : goal.decreases-open_types
decreases-open_types l = 2 * l.tuple

-- the items so far
abbrev pub invariant-open_types-loop-number : goal.invariant-open_types-loop-number
invariant-open_types-loop-number l = map open_view l.items ≡ map (type_at l.types) (take l.number-index l.number-items)
