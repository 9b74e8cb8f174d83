use Rattle.std.proofs.Common.{map, rules}
use Rattle.component.specs.Leaves.{term_view}
use Rattle.declaration_schemas.proofs.one_of.OneOfToTerm.to_term.Goals as goal

pub returns-clause-term : goal.returns-clause-term
returns-clause-term g c = (map term_view c.in_ok-items.items, c.in_ok-items.ensures.terms, search rules)
