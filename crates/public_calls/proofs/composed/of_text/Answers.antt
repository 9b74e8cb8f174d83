use Rattle.syntax.specs.Items.{declarations_view}
use Rattle.public_calls.proofs.composed.of_text.Goals as goal

pub of_declarations-requires : goal.of_declarations-requires
of_declarations-requires c = c.read_fields_are_named.ensures _ (declarations_view c.in_ok-declarations.declarations) c.in_ok-declarations.ensures.found
