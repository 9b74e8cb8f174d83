use Rattle.schema_core.proofs.OneText.{one_document}
use Rattle.schema_core.proofs.law.documents_are_one.Goals as goal

pub returns : goal.returns
returns c = one_document
