use Rattle.prepare.proofs.Groups.{before_view}
use Rattle.prepare.proofs.trees.before.Goals as goal

pub returns : goal.returns
returns c = rw c.saturating_sub.ensures (before_view c.args.trees.now c.args.rest.now)
