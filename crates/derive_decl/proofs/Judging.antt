-- The declaration at a place, and its faults.
use Rattle.std.proofs.Common.{◌≡◌, ◌∙◌, ℕ, List, Some, Result, Ok, Err, sym, subst, inl, inr}
use Rattle.std.specs.Prelude.{IfOk, slice_get}
use Rattle.std.proofs.lemmas.Option.{same_Some}
use Rattle.diag.specs.Refusal.{Refuses, RefusesNone}
use Rattle.diag.specs.declared.error.DeriveError.{DeriveError}
use Rattle.configuration.specs.Configuration.{Configuration}
use Rattle.scopes.specs.Names.{place_among}
use Rattle.syntax.specs.Items.{DeclaredItem}
use Rattle.derive_decl.specs.Faults.{IsFaultyItem, IsFaultyIn, IsFaultyAt}
use Rattle.derive_decl.specs.Resolved.{Around, around_of}

module _ (c : Configuration) (ds : List DeclaredItem) (at : ℕ) (d : DeclaredItem) (around : Around) {A : Type 0} (r : Result A DeriveError) (found : slice_get ds at ≡ Some d) (first : place_among ds d.ident.text ≡ Some at)
    (same : around ≡ around_of c ds d.ident.text d.generics) where
  none_at : RefusesNone (IsFaultyItem around d) → RefusesNone (IsFaultyAt c ds at)
  none_at clear e (x, is, fault) =
      let one : d ≡ x = same_Some d x (sym found ∙ is) in
      let mine : IsFaultyIn c ds at d e = subst (λ v. IsFaultyIn c ds at v e) (sym one) fault in
      elim mine [
        | inl second ↦ second.0 first
        | inr itself ↦ clear e (subst (λ a. IsFaultyItem a d e) (sym same) itself.1)
      ]

  pub is_clear : IfOk r (λ _. RefusesNone (IsFaultyItem around d)) → IfOk r (λ _. RefusesNone (IsFaultyAt c ds at))
  is_clear h = by r h
    where
      by : (s : Result A DeriveError) → IfOk s (λ _. RefusesNone (IsFaultyItem around d)) → IfOk s (λ _. RefusesNone (IsFaultyAt c ds at))
      by (Ok x) k = none_at k
      by (Err e) k = k

  pub is_faulty : Refuses r (IsFaultyItem around d) → Refuses r (IsFaultyAt c ds at)
  is_faulty h = by r h
    where
      by : (s : Result A DeriveError) → Refuses s (IsFaultyItem around d) → Refuses s (IsFaultyAt c ds at)
      by (Ok x) k = k
      by (Err e) (inl memory) = inl memory
      by (Err e) (inr fault) = inr (d, found, inr (first, subst (λ a. IsFaultyItem a d e) same fault))
