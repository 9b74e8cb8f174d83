use Rattle.selecting.proofs.One.{added, selected}
use Rattle.selecting.proofs.law.one_selecting.Goals as goal

pub returns-clause-selected : goal.returns-clause-selected
returns-clause-selected c = selected c.one_type_reading.ensures

pub returns-clause-added : goal.returns-clause-added
returns-clause-added c = added c.one_type_reading.ensures
