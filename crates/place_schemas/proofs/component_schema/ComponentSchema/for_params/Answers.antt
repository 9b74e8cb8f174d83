use Rattle.std.proofs.Common.{rules}
use Rattle.open_types.specs.Open.{open_view}
use Rattle.place_schemas.proofs.component_schema.ComponentSchema.for_params.Goals as goal
use Rattle.place_schemas.proofs.component_schema.ComponentSchema.for_params.Goals.{then-option_is_nullable, else-option_is_nullable}

pub returns-clause-schema : goal.returns-clause-schema
returns-clause-schema c =
    let of = open_view c.in_ok-resolved.resolved in
    elim c.if-option_is_nullable.branch [
      | then-option_is_nullable w ↦ record { of = of; resolved = c.in_ok-resolved.ensures.resolved; term = search rules; references = search rules; warnings = search rules }
      | else-option_is_nullable w ↦ record { of = of; resolved = c.in_ok-resolved.ensures.resolved; term = search rules; references = search rules; warnings = search rules }
    ]
