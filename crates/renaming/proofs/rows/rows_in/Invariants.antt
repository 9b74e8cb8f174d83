use Rattle.std.proofs.Common.{◌≡◌, ◌++◌, map}
use Rattle.renaming.specs.Rows.{row_with}
use Rattle.renaming.proofs.rows.rows_in.Given as goal

-- the rows so far, and those of what is left, are those of the table
abbrev pub invariant-loop-key : goal.invariant-loop-key
invariant-loop-key l = l.rows ++ map (λ e. row_with e.0 e.1) l.key-iterator ≡ map (λ e. row_with e.0 e.1) l.fn.table.entries
