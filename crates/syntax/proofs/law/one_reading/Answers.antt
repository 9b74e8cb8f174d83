use Rattle.syntax.proofs.Answered.{one}
use Rattle.syntax.proofs.law.one_reading.Goals as goal

pub returns : goal.returns
returns c = one c.one_cut.ensures
