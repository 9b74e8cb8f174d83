-- What is known in a declaration that stands at a place.
use Rattle.std.proofs.Common.{◌≡◌, ◌∙◌, ◌<◌, ℕ, length, get_or, ap}
use Rattle.configuration.specs.Configuration.{Configuration}
use Rattle.syntax.specs.declared.item.Declaration.{Declaration}
use Rattle.syntax.specs.declared.item.Declarations.{Declarations}
use Rattle.syntax.specs.Items.{declaration_view, declarations_view}
use Rattle.scopes.specs.Names.{declared_name}
use Rattle.scopes.specs.Parameters.{generics_at}
use Rattle.scopes.proofs.Laws.{generics_are, name_is}
use Rattle.derive_decl.specs.Resolved.{around_of}

pub around_is : (c : Configuration) (before after : Declarations) (owner i : ℕ) (d : Declaration) → before ≡ after → owner ≡ i → i < length after.items → d ≡ get_or after.items i d →
    around_of c (declarations_view before) (declared_name (declarations_view before) owner) (generics_at (declarations_view before) owner)
    ≡ around_of c (declarations_view after) d.ident.text (declaration_view d).generics
around_is c before after owner i d same at l is =
    ap (λ n. around_of c (declarations_view before) (declared_name (declarations_view before) n) (generics_at (declarations_view before) n)) at
    ∙ ap (λ (ds : Declarations). around_of c (declarations_view ds) (declared_name (declarations_view ds) i) (generics_at (declarations_view ds) i)) same
    ∙ (λ j. around_of c (declarations_view after) (name_is after.items i d l is j) (generics_are after.items i d l is j))
