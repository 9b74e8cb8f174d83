use Rattle.std.proofs.lemmas.Result.{IfOk-weaker}
use Rattle.file_runs.proofs.SchemaTexts.{schemas_are, order_is}
use Rattle.file_runs.proofs.showing.schemas_of.Goals as goal

pub returns-clause-texts : goal.returns-clause-texts
returns-clause-texts c =
    IfOk-weaker c.schema_texts.result _ _ (λ ts h. schemas_are c.texts_are_compact.ensures c.args.by c.documents_are_in_order.ensures c.args.composition.now ts c.schema_texts.ensures.order h) c.schema_texts.ensures.texts

pub returns-clause-order : goal.returns-clause-order
returns-clause-order c =
    IfOk-weaker c.schema_texts.result _ _ (λ ts h. order_is c.texts_are_compact.ensures c.args.by c.args.composition.now ts c.schema_texts.ensures.order h) c.schema_texts.ensures.texts
