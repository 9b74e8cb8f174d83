use Rattle.acceptance_checker.proofs.Views.{same_items-lengths}
use Rattle.acceptance_checker.proofs.equality.+same.Goals as goal

pub same_items-returns-then-xs-ys : goal.same_items-returns-then-xs-ys
same_items-returns-then-xs-ys t c = same_items-lengths c.args.xs.now c.args.ys.now c.if-xs-ys.true
