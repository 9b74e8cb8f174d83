-- Declarations that have the names of others.
use Rattle.std.proofs.Common.{ℕ, zero, suc, List, [], ◌∷◌, ◌++◌, ◌≡◌, refl, ap, sym, ◌∙◌}
use Rattle.open_types.specs.Open.{Open}
use Rattle.open_types.specs.TypeNames.{type_name}
use Rattle.scopes.specs.Names.{declared_idents, declared_names}
use Rattle.scopes.specs.Texts.{name_at}
use Rattle.syntax.specs.Items.{DeclaredItem}
use Rattle.shapes.specs.Declarations.{DeclarationOf, declaration_at, declaration_names}
use Rattle.shapes.specs.InstanceNames.{instance_name}

same-name : (ss : List DeclarationOf) (ds : List DeclaredItem) → declaration_names ss ≡ declared_names ds → (d : ℕ) → (declaration_at ss d).name ≡ name_at (declared_idents ds) d
same-name [] [] e d = refl
same-name [] (x ∷ ds) e d = cc
same-name (s ∷ ss) [] e d = cc
same-name (s ∷ ss) (x ∷ ds) e zero = cc
same-name (s ∷ ss) (x ∷ ds) e (suc d) = let rest : declaration_names ss ≡ declared_names ds = cc in same-name ss ds rest d

-- so the names of types are the same
pub same-names : (ss : List DeclarationOf) (ds : List DeclaredItem) → declaration_names ss ≡ declared_names ds → (t : Open) → instance_name ss t ≡ type_name (name_at (declared_idents ds)) t
same-names ss ds e t = λ i. type_name (λ d. same-name ss ds e d i) t

names-push : (ss : List DeclarationOf) (s : DeclarationOf) → declaration_names (ss ++ s ∷ []) ≡ declaration_names ss ++ s.name ∷ []
names-push [] s = refl
names-push (r ∷ ss) s = ap (λ ns. r.name ∷ ns) (names-push ss s)

declared-push : (ds : List DeclaredItem) (d : DeclaredItem) → declared_names (ds ++ d ∷ []) ≡ declared_names ds ++ d.ident.text ∷ []
declared-push [] d = refl
declared-push (r ∷ ds) d = ap (λ ns. r.ident.text ∷ ns) (declared-push ds d)

-- one declaration more
pub names-more : (ss : List DeclarationOf) (s : DeclarationOf) (ds : List DeclaredItem) (d : DeclaredItem) → declaration_names ss ≡ declared_names ds → s.name ≡ d.ident.text → declaration_names (ss ++ s ∷ []) ≡ declared_names (ds ++ d ∷ [])
names-more ss s ds d e n = names-push ss s ∙ (λ i. e i ++ n i ∷ []) ∙ sym (declared-push ds d)
