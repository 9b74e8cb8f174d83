use Rattle.gathering.proofs.Taking.{aliased_as_one}
use Rattle.gathering.proofs.law.one_aliasing.Goals as goal

pub returns : goal.returns
returns c = aliased_as_one c.aliases_are_one.ensures
