use Rattle.prepare.proofs.Groups.{but_last_view}
use Rattle.prepare.proofs.trees.but_last.Goals as goal

pub returns : goal.returns
returns c = rw c.saturating_sub.ensures (but_last_view c.args.trees.now)
