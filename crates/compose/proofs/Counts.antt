-- As many names as declarations.
use Rattle.std.proofs.Common.{suc, List, [], ◌∷◌, length, map, ◌≡◌, refl, ap, sym, ◌∙◌}
use Rattle.std.proofs.lemmas.List.{length-map}
use Rattle.written_types.specs.declared.written.Ident.{Ident}
use Rattle.syntax.specs.Items.{DeclaredItem}
use Rattle.scopes.specs.Names.{declared_names, declared_idents}
use Rattle.shapes.specs.Declarations.{DeclarationOf, declaration_names}
use Rattle.shapes.specs.declared.declaration.Declaration.{Declaration}
use Rattle.shapes.specs.Views.{declaration_view}

names-many : (ds : List DeclaredItem) → length (declared_names ds) ≡ length (declared_idents ds)
names-many [] = refl
names-many (d ∷ ds) = ap suc (names-many ds)

own-many : (ds : List DeclaredItem) → length (declared_names ds) ≡ length ds
own-many [] = refl
own-many (d ∷ ds) = ap suc (own-many ds)

declarations-many : (ss : List DeclarationOf) → length (declaration_names ss) ≡ length ss
declarations-many [] = refl
declarations-many (s ∷ ss) = ap suc (declarations-many ss)

pub as-many : (idents now : List Ident) (resolved slice : List Declaration) (ds : List DeclaredItem) → now ≡ idents → slice ≡ resolved → idents ≡ declared_idents ds → declaration_names (map declaration_view resolved) ≡ declared_names ds → length now ≡ length slice
as-many idents now resolved slice ds a b e n =
    ap length (a ∙ e) ∙ sym (names-many ds) ∙ ap length (sym n) ∙ declarations-many (map declaration_view resolved) ∙ length-map resolved declaration_view ∙ ap length (sym b)

-- as many declarations as are resolved
pub declared-many : (ss : List DeclarationOf) (ds : List DeclaredItem) → declaration_names ss ≡ declared_names ds → length ss ≡ length ds
declared-many ss ds n = sym (declarations-many ss) ∙ ap length n ∙ own-many ds
