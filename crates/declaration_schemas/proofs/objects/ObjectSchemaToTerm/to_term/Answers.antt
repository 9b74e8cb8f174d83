use Rattle.std.proofs.Common.{rules}
use Rattle.component.specs.Leaves.{term_view}
use Rattle.declaration_schemas.proofs.objects.ObjectSchemaToTerm.to_term.Goals as goal

pub returns-clause-term : goal.returns-clause-term
returns-clause-term g c = (term_view c.in_ok-item.item, c.in_ok-item.ensures.term, search rules)
