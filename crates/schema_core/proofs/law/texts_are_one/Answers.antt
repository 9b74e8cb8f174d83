use Rattle.schema_core.proofs.OneText.{one_text}
use Rattle.schema_core.proofs.law.texts_are_one.Goals as goal

pub returns : goal.returns
returns c = one_text
