use Rattle.schema_gen.proofs.Told.{one_document}
use Rattle.schema_gen.proofs.law.told_texts_are_one.Goals as goal

pub returns : goal.returns
returns c = λ begun. one_document begun c.configurations_are_one.ensures.of_text c.components_are_one.ensures
