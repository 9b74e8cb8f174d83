use Rattle.documents.proofs.DifferenceLaws.{others_differ}
use Rattle.documents.proofs.law.others_differ.Goals as goal

pub returns : goal.returns
returns c = others_differ
