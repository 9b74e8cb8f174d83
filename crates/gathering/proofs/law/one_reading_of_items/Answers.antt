use Rattle.gathering.proofs.Together.{as_one}
use Rattle.gathering.proofs.law.one_reading_of_items.Goals as goal

pub returns : goal.returns
returns c = as_one c.one_reading.ensures
