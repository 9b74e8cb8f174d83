use Rattle.std.proofs.Math.Nat.{min-le_right}
use Rattle.attributes.specs.Comments.{indent}
use Rattle.attributes.proofs.Margins.{within_indent}
use Rattle.attributes.proofs.comments.unindented.Goals as goal

pub range_from-requires : goal.range_from-requires
range_from-requires c = λ more. within_indent c.args.line.now c.min-count.result c.utf8.line (rw (c.min-count.ensures, c.indent.ensures) (min-le_right c.args.count (indent c.args.line.now)))
