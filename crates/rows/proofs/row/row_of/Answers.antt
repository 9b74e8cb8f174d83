use Rattle.std.proofs.Common.{◌≢◌, length, arith}
use Rattle.rows.proofs.RowLaws.{others_are_of_none}
use Rattle.rows.proofs.row.row_of.Goals as goal

pub returns-then-parts-ne-PARTS : goal.returns-then-parts-ne-PARTS
returns-then-parts-ne-PARTS c = others_are_of_none c.args.parts.now (let other : length c.args.parts.now ≢ 3 = omega arith in other)
