use Rattle.compose.proofs.OneList.{components_are_one}
use Rattle.compose.proofs.law.components_are_one.Goals as goal

pub returns : goal.returns
returns c = components_are_one c.one_reading.ensures
