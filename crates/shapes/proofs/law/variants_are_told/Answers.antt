use Rattle.shapes.proofs.Told.{shapes-tell, one-tag, one-number}
use Rattle.shapes.proofs.law.variants_are_told.Goals as goal

pub returns-clause-told : goal.returns-clause-told
returns-clause-told c = shapes-tell

pub returns-clause-one : goal.returns-clause-one
returns-clause-one c = one-tag

pub returns-clause-number : goal.returns-clause-number
returns-clause-number c = one-number
