use Rattle.std.proofs.Common.{◌<◌, ◌≤◌, length, ap, sym, arith}
use Rattle.schema_trees.specs.Schema.{schema_view}
use Rattle.closing.proofs.Made.{schema_at, schema_past}
use Rattle.closing.proofs.closed.schema_at.Goals as goal

pub returns-then-number-made : goal.returns-then-number-made
returns-then-number-made c =
    let lt : c.args.number < length c.args.made.now = grind arith in
    rw (schema_at c.args.made.now c.args.number c.index-made-number.result lt, sym (ap schema_view c.index-made-number.is)) c.copy_schema.ensures

pub returns-else-number-made : goal.returns-else-number-made
returns-else-number-made c =
    let past : length c.args.made.now ≤ c.args.number = grind arith in
    rw (schema_past c.args.made.now c.args.number past) c.any_value.ensures
