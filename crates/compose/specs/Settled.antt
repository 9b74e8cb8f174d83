-- What is known of declarations whose types are resolved.
use Rattle.std.specs.Prelude.{◌≡◌, List, Some}
use Rattle.configuration.specs.Configuration.{Configuration}
use Rattle.syntax.specs.Items.{DeclaredItem}
use Rattle.scopes.specs.Names.{declared_names}
use Rattle.shapes.specs.Declarations.{DeclarationOf, declaration_names, AreFitting}
use Rattle.derive_decl.specs.Whole.{resolved_declarations}
use Rattle.compose.specs.Faults.{AreClear}

-- What declarations are resolved to, where no condition of a refusal holds; the names of both are the same.
pub record IsSettled (c : Configuration) (ds : List DeclaredItem) (ss : List DeclarationOf) : Type 0 where
  pub resolves : resolved_declarations c ds ≡ Some ss
  pub clear : AreClear c ds
  pub names : declaration_names ss ≡ declared_names ds
  pub fitting : AreFitting ss
