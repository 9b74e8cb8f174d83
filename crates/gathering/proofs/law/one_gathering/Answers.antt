use Rattle.gathering.proofs.Taking.{as_one}
use Rattle.gathering.proofs.law.one_gathering.Goals as goal

pub returns : goal.returns
returns c = as_one c.items_are_one.ensures
