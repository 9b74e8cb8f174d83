use Rattle.schema_core.proofs.EntryLaws.{in_order-none}
use Rattle.schema_core.proofs.components.Components.new.Goals as goal

pub invariant_of-result : goal.invariant_of-result
invariant_of-result c = rw (c.new.ensures, c.new-2.ensures) ((cc), in_order-none)
