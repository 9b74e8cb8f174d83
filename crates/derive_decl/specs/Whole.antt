-- What all declarations of a source are resolved to, and what they mean.
use Rattle.std.specs.Prelude.{List, Option}
use Rattle.configuration.specs.Configuration.{Configuration}
use Rattle.syntax.specs.Items.{DeclaredItem}
use Rattle.shapes.specs.Declarations.{DeclarationOf}
use Rattle.derive_decl.specs.Resolved.{around_of, all_of, resolved_of, meant_of}

-- what one of these declarations is resolved to
abbrev pub resolved_among : Configuration → List DeclaredItem → DeclaredItem → Option DeclarationOf
resolved_among c ds d = resolved_of (around_of c ds d.ident.text d.generics) d

-- what all declarations are resolved to, where each is to something
abbrev pub resolved_declarations : Configuration → List DeclaredItem → Option (List DeclarationOf)
resolved_declarations c ds = all_of (resolved_among c ds) ds

-- what all declarations mean, where each means something
abbrev pub meant_among : Configuration → List DeclaredItem → DeclaredItem → Option DeclarationOf
meant_among c ds d = meant_of (around_of c ds d.ident.text d.generics) d

abbrev pub meant_declarations : Configuration → List DeclaredItem → Option (List DeclarationOf)
meant_declarations c ds = all_of (meant_among c ds) ds
