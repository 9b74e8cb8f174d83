use Rattle.std.proofs.Common.{◌-◌, ◌^◌, min, refl, arith}
use Rattle.telling.specs.Places.{column_behind}
use Rattle.telling.proofs.Counting.{column_step, column_end}
use Rattle.telling.proofs.part.column_behind.Goals as goal

pub bytes-preserved : goal.bytes-preserved
bytes-preserved c =
    column_step c.bytes.column (2 ^ 64 - 1) c.next_column-column.result (min (column_behind c.args.column c.args.bytes.now) (2 ^ 64 - 1)) c.bytes.rest.now _ c.in-len1-up.len_at_least refl (omega arith) c.next_column-column.ensures c.bytes.invariant.1

pub returns : goal.returns
returns c = column_end c.bytes.column (2 ^ 64 - 1) (min (column_behind c.args.column c.args.bytes.now) (2 ^ 64 - 1)) c.bytes.rest.now (omega arith) c.bytes.invariant.0 c.bytes.invariant.1
