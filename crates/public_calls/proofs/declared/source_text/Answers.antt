use Rattle.syntax.specs.Items.{declarations_view}
use Rattle.public_calls.proofs.declared.source_text.Goals as goal

pub declarations_text-requires : goal.declarations_text-requires
declarations_text-requires c = c.read_fields_are_named.ensures _ (declarations_view c.in_ok-declarations.declarations) c.in_ok-declarations.ensures.found
