use Rattle.schema_core.proofs.Found.{found_in_document}
use Rattle.schema_core.proofs.law.documents_hold.Goals as goal

pub returns : goal.returns
returns c = found_in_document
