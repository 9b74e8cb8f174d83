-- The names of declarations, and their places.
use Rattle.std.proofs.Common.{ℕ, suc, ◌<◌, List, [], ◌∷◌, Option, Some, None, option_map, Bool, true, false, cond, bytes_eq, length, map, ◌≡◌, refl, ap, subst, arith}
use Rattle.std.proofs.lemmas.Option.{none-some, same_Some}
use Rattle.syntax.specs.declared.item.Declaration.{Declaration}
use Rattle.syntax.specs.Items.{DeclaredItem, declaration_view}
use Rattle.scopes.specs.Names.{declared_names, place_among, declared_idents, texts}

pub declared_names-are : (ds : List Declaration) → texts (map (λ d. d.ident) ds) ≡ declared_names (map declaration_view ds)
declared_names-are [] = refl
declared_names-are (d ∷ ds) = ap (λ ns. d.ident.text ∷ ns) (declared_names-are ds)

pub declared_idents-are : (ds : List Declaration) → map (λ d. d.ident) ds ≡ declared_idents (map declaration_view ds)
declared_idents-are [] = refl
declared_idents-are (d ∷ ds) = ap (λ xs. d.ident ∷ xs) (declared_idents-are ds)

-- each place is that of a declaration
pub placed : (ds : List DeclaredItem) (k : List ℕ) (p : ℕ) → place_among ds k ≡ Some p → p < length ds
placed [] k p e = absurd (none-some p e)
placed (d ∷ ds) k p e = by (bytes_eq k d.ident.text) (place_among ds k) e (placed ds k)
  where
    by : (b : Bool) (o : Option ℕ) → cond b (Some 0) (option_map suc o) ≡ Some p → ((r : ℕ) → o ≡ Some r → r < length ds) → p < suc (length ds)
    by true o h all = subst (λ q. q < suc (length ds)) (same_Some 0 p h) (omega arith)
    by false None h all = absurd (none-some p h)
    by false (Some r) h all = subst (λ q. q < suc (length ds)) (same_Some (suc r) p h) (omega (arith, all r refl))
