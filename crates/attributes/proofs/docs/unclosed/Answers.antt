use Rattle.attributes.proofs.Unclosed.{left_unclosed}
use Rattle.attributes.proofs.docs.unclosed.Goals as goal

pub returns-in-None : goal.returns-in-None
returns-in-None c = left_unclosed c.args.text.now c.in-None.ensures.cases
