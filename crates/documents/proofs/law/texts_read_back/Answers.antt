use Rattle.documents.proofs.TextLaws.{texts_read_back}
use Rattle.documents.proofs.law.texts_read_back.Goals as goal

pub returns : goal.returns
returns c = texts_read_back
