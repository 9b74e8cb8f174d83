use Rattle.telling.proofs.Lines.{left_unended}
use Rattle.telling.proofs.position.without_return.Goals as goal

pub returns-in-None : goal.returns-in-None
returns-in-None c = left_unended c.args.line.now c.in-None.ensures.cases
