use Rattle.std.proofs.Common.{take}
use Rattle.renaming.specs.Rows.{IsTableOf}
use Rattle.renaming.proofs.rows.table_of.Given as goal

-- the table is that of the names so far
abbrev pub invariant-loop-asked : goal.invariant-loop-asked
invariant-loop-asked l = IsTableOf (take l.asked-index l.names) l.table
