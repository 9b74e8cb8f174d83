use Rattle.resolving.proofs.Counted.{alone-none}
use Rattle.resolving.proofs.arguments.alone.Goals as goal

pub returns-else-is_empty : goal.returns-else-is_empty
returns-else-is_empty c = alone-none _ c.args.arguments.now c.if-is_empty.ensures
