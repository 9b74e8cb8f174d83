-- The lifetimes among generic parameters, one after another.
use Rattle.std.proofs.Common.{ℕ, ◌+◌, ◌<◌, List, [], ◌∷◌, ◌++◌, length, take, get_or, map, ◌≡◌, refl, ap, sym, ◌∙◌}
use Rattle.std.proofs.lemmas.List.{take_more, map_push}
use Rattle.written_types.specs.declared.written.Ident.{Ident}
use Rattle.syntax.specs.declared.item.GenericParam.{GenericParam}
use Rattle.syntax.specs.Items.{ParameterItem, lifetime_parameter, type_parameter, const_parameter, parameter_view}
use Rattle.derive_decl.specs.Lifetimes.{unquoted, lifetimes_of}

lifetimes-push : (ps : List ParameterItem) (p : ParameterItem) → lifetimes_of (ps ++ p ∷ []) ≡ lifetimes_of ps ++ lifetimes_of (p ∷ [])
lifetimes-push [] p = refl
lifetimes-push (lifetime_parameter x ∷ ps) p = ap (λ (xs : List Ident). unquoted x ∷ xs) (lifetimes-push ps p)
lifetimes-push (type_parameter x ∷ ps) p = lifetimes-push ps p
lifetimes-push (const_parameter x ∷ ps) p = lifetimes-push ps p

-- those of the parameters so far, and of one more
pub lifetimes_more : (ps : List GenericParam) (i : ℕ) (p : GenericParam) → i < length ps → p ≡ get_or ps i p → lifetimes_of (map parameter_view (take (i + 1) ps)) ≡ lifetimes_of (map parameter_view (take i ps)) ++ lifetimes_of (parameter_view p ∷ [])
lifetimes_more ps i p l is =
    ap (λ qs. lifetimes_of (map parameter_view qs)) (take_more ps i p l)
    ∙ ap lifetimes_of (map_push parameter_view (take i ps) (get_or ps i p))
    ∙ lifetimes-push (map parameter_view (take i ps)) (parameter_view (get_or ps i p))
    ∙ ap (λ q. lifetimes_of (map parameter_view (take i ps)) ++ lifetimes_of (parameter_view q ∷ [])) (sym is)
