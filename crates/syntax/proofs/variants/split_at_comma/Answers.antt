use Rattle.syntax.proofs.Commas.{before_is}
use Rattle.syntax.proofs.variants.split_at_comma.Goals as goal

pub returns-clause-before : goal.returns-clause-before
returns-clause-before c = before_is c.args.trees.now c.from_comma-rest.result.now c.from_comma-rest.ensures.value
