use Rattle.schema_core.proofs.ReadBack.{texts_read_back}
use Rattle.schema_core.proofs.law.texts_read_back.Goals as goal

pub returns : goal.returns
returns c = texts_read_back
