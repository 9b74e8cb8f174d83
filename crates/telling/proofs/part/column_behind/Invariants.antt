use Rattle.std.proofs.Common.{◌≡◌, ◌≤◌, ◌-◌, ◌^◌, length, min}
use Rattle.telling.specs.Places.{column_behind}
use Rattle.telling.proofs.part.column_behind.Given as goal

-- the column behind what is left is the one behind all
abbrev pub invariant-bytes : goal.invariant-bytes
invariant-bytes l = (l.column ≤ 2 ^ 64 - 1) × (min (column_behind l.column l.rest) (2 ^ 64 - 1) ≡ min (column_behind l.fn.column l.bytes) (2 ^ 64 - 1))

abbrev pub decreases-bytes : goal.decreases-bytes
decreases-bytes l = length l.rest
