use Rattle.schema_core.proofs.InOrder.{entries_in_order}
use Rattle.schema_core.proofs.law.documents_are_in_order.Goals as goal

pub returns : goal.returns
returns c = entries_in_order
