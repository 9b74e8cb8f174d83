use Rattle.prepare.proofs.One.{one_list}
use Rattle.prepare.proofs.law.items_are_one.Goals as goal

pub returns : goal.returns
returns c = one_list c.one_cut.ensures
