use Rattle.acceptance_checker.proofs.Views.{length-items}
use Rattle.acceptance_checker.proofs.layer.item_count.Goals as goal

pub returns : goal.returns
returns c = length-items c.args.items.now
