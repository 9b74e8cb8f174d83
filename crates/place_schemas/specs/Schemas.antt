-- The schema of a place by its written type.
use Rattle.std.specs.Prelude.{◌≡◌, [], Bool, map, Some}
use Rattle.diag.specs.declared.error.DeriveError.{DeriveError}
use Rattle.written_types.specs.Written.{written_view}
use Rattle.open_types.specs.Open.{Open}
use Rattle.resolving.specs.Resolved.{resolved_type, Fault, IsFault, IsRefusedFor}
use Rattle.resolving.specs.Known.{Known}
use Rattle.scopes.specs.Scopes.{known_in}
use Rattle.place_schemas.specs.declared.component_schema.ComponentSchema.{ComponentSchema}
use Rattle.place_schemas.specs.declared.component_schema.ComponentSchemaProps.{ComponentSchemaProps}
use Rattle.scopes.specs.Descriptions.{described_by}
use Rattle.component.specs.Leaves.{term_view}
use Rattle.component.specs.Places.{PlaceOf, place, parameter_type}
use Rattle.component.specs.References.{reference_view, references}

-- the names that are known where the type is written
abbrev pub known_at : ComponentSchemaProps → Known
known_at props = known_in props.container.now.config.now props.container.now.scope.now

abbrev pub place_of : ComponentSchemaProps → PlaceOf
place_of props = record { nullable = props.nullable; inline = props.inline; deprecated = props.deprecated; description = described_by props.description }

-- The schema is that of the type that is written at the place, with the declarations that it names; where it is a parameter's, an option may not say null.
pub record IsSchemaOf (option_is_nullable : Bool) (props : ComponentSchemaProps) (made : ComponentSchema) : Type 0 where
  pub of : Open
  pub resolved : resolved_type (known_at props) (written_view props.written.now) ≡ Some of
  pub term : term_view made.term ≡ place (place_of props) (parameter_type option_is_nullable of)
  pub references : map reference_view made.schema_references ≡ references props.inline (parameter_type option_is_nullable of)
  pub warnings : made.warnings ≡ []

-- the error refuses the type that is written at the place
abbrev pub IsRefusedPlace : ComponentSchemaProps → DeriveError → Type 0
IsRefusedPlace props e = (fault : Fault) × IsFault (known_at props) (written_view props.written.now) fault × IsRefusedFor fault e
