use Rattle.documents.proofs.DifferenceLaws.{alike_are_equal}
use Rattle.documents.proofs.law.alike_are_equal.Goals as goal

pub returns : goal.returns
returns c = alike_are_equal
