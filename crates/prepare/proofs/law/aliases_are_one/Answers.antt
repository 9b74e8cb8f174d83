use Rattle.prepare.proofs.One.{one_list_of_aliases}
use Rattle.prepare.proofs.law.aliases_are_one.Goals as goal

pub returns : goal.returns
returns c = one_list_of_aliases c.one_cut.ensures
