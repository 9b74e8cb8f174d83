-- The items of a schema that is one of several.
use Rattle.std.proofs.Common.{codes}
use Rattle.acceptance.specs.Json.{no_members}
use Rattle.schema_core.specs.declared.alternatives.Alternatives.TheVariants.{OneOf, AnyOf}
use Rattle.schema_core.specs.Form.{one_of_fields, schema_forms}
use Rattle.schema_core.specs.Meaning.{OneOfHolds}
use Rattle.schema_core.proofs.Fields.{look-fields}

pub one_of_holds : OneOfHolds
one_of_holds OneOf OneOf annotations ss = look-fields (codes "oneOf") (one_of_fields OneOf annotations (schema_forms OneOf ss)) no_members
one_of_holds OneOf AnyOf annotations ss = look-fields (codes "anyOf") (one_of_fields OneOf annotations (schema_forms OneOf ss)) no_members
one_of_holds AnyOf OneOf annotations ss = look-fields (codes "oneOf") (one_of_fields AnyOf annotations (schema_forms AnyOf ss)) no_members
one_of_holds AnyOf AnyOf annotations ss = look-fields (codes "anyOf") (one_of_fields AnyOf annotations (schema_forms AnyOf ss)) no_members
