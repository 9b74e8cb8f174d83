use Rattle.std.proofs.Common.{◌∙◌, Some, option_map, ap, sym}
use Rattle.terms.specs.Terms.{term}
use Rattle.declaration_schemas.proofs.schema.SchemaToTerm.to_term.Goals as goal

pub returns-clause-term : goal.returns-clause-term
returns-clause-term c = ap (option_map term) c.in_ok-resolved.ensures.resolved ∙ ap Some (sym c.in_ok-declaration_term.ensures)
