-- What a declaration whose schema is asked for is resolved to, and why it may have none.
use Rattle.std.specs.Prelude.{Option, map}
use Rattle.diag.specs.declared.error.DeriveError.{DeriveError}
use Rattle.attributes.specs.Attributes.{attribute_view}
use Rattle.syntax.specs.Items.{DeclaredItem, body_view}
use Rattle.scopes.specs.Scopes.{generics_in}
use Rattle.shapes.specs.Declarations.{DeclarationOf}
use Rattle.derive_decl.specs.Faults.{IsFaultyItem}
use Rattle.derive_decl.specs.Resolved.{resolved_of}
use Rattle.derive_decl.specs.Views.{known}
use Rattle.declaration_schemas.specs.declared.schema.Schema.{Schema}

-- the declaration, with the generics of that which the container stands for
abbrev pub item_of : Schema → DeclaredItem
item_of s = record {
  attrs = map attribute_view s.attributes.now;
  ident = s.ident.now;
  generics = generics_in s.container.now.scope.now;
  body = body_view s.body.now;
  span = s.ident.now.span;
}

abbrev pub resolved_schema : Schema → Option DeclarationOf
resolved_schema s = resolved_of (known s.container.now) (item_of s)

abbrev pub IsFaultySchema : Schema → DeriveError → Type 0
IsFaultySchema s e = IsFaultyItem (known s.container.now) (item_of s) e
