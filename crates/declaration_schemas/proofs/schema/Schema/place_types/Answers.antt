use Rattle.std.proofs.Common.{◌∙◌, Some, option_map, ap, sym}
use Rattle.shapes.specs.Declarations.{DeclarationOf, body_types}
use Rattle.declaration_schemas.proofs.schema.Schema.place_types.Goals as goal

pub returns-clause-types : goal.returns-clause-types
returns-clause-types c = ap (option_map (λ (of : DeclarationOf). body_types of.body)) c.in_ok-resolved.ensures.resolved ∙ ap Some (sym c.in_ok-copied_types.ensures)
