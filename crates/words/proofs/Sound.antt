-- What readers of lists that went well have read.
use Rattle.std.proofs.Common.{◌≡◌, ◌∙◌, ℕ, zero, suc, ◌⊎◌, inl, inr, List, [], ◌∷◌, length, refl, ap, sym, subst, arith, Ok}
use Rattle.texts.specs.declared.span.Span.{Span}
use Rattle.words.specs.declared.vocabulary.Sign.TheVariants.{Comma}
use Rattle.words.specs.Words.{Word, sign}
use Rattle.words.specs.Reading.{Read, sign_at}
use Rattle.words.specs.Lists.{IsList, no_items, last_item, more_items, after_comma, turn_at, many_at, many_of, itself, list_of}
use Rattle.words.proofs.Read.{bind_ok, ok_is, along}
use Rattle.words.proofs.Stands.{sign-is}
use Rattle.words.proofs.Many.{Shortens}

-- ---- items of a list
pub comma_read : (ws rest : List Word) → after_comma ws ≡ Ok rest → ((ws ≡ []) × (rest ≡ [])) ⊎ ((at : Span) × (ws ≡ sign Comma at ∷ rest))
comma_read [] rest e = inl (refl, sym (ok_is e))
comma_read (w ∷ ws) rest e =
    let comma = bind_ok (sign_at Comma (w ∷ ws)) e in
    let same : comma.0.1 ≡ rest = ok_is comma.2 in
    inr (comma.0.0, sign-is Comma (w ∷ ws) comma.0 comma.1 ∙ ap (λ v. sign Comma comma.0.0 ∷ v) same)

pub turn_sound : {A : Type 0} (item : List Word → Read A) (ws : List Word) (x : A) (rest : List Word) → turn_at item ws ≡ Ok (x, rest) → (mid : List Word) × (item ws ≡ Ok (x, mid)) × (after_comma mid ≡ Ok rest)
unfolding turn_at
turn_sound item ws x rest e =
    let p = bind_ok (item ws) e in
    let comma = bind_ok (after_comma p.0.1) p.2 in
    along (λ v w. (mid : List Word) × (item ws ≡ Ok (v, mid)) × (after_comma mid ≡ Ok w)) (p.0.0, comma.0) (x, rest) comma.2 (p.0.1, p.1, comma.1)

pub turn_shortens : {A : Type 0} (item : List Word → Read A) → Shortens item → Shortens (turn_at item)
turn_shortens item shortens ws x rest e =
    let h = turn_sound item ws x rest e in
    let less = shortens ws x h.0 h.1 in
    elim (comma_read h.0 rest h.2) [
      | inl k ↦ let one = ap length k.0 in let other = ap length k.1 in omega arith
      | inr k ↦ let fewer = ap length k.1 in omega arith
    ]

none_left : {A B : Type 0} (keep : A → List B) (item : List Word → Read A) (n : ℕ) (xs : List B) → many_at keep item n [] ≡ Ok xs → xs ≡ []
unfolding many_at
none_left keep item zero xs e = cc
none_left keep item (suc n) xs e = sym (ok_is e)

module _ {A : Type 0} (item : List Word → Read A) (IsItem : List Word → A → List Word → Type 0) (sound : (ws : List Word) (x : A) (rest : List Word) → item ws ≡ Ok (x, rest) → IsItem ws x rest) where
  list_within : (n : ℕ) (ws : List Word) (xs : List A) → many_at itself (turn_at item) n ws ≡ Ok xs → IsList IsItem ws xs
  unfolding many_at
  list_within zero ws xs e = cc
  list_within (suc n) [] xs e = subst (λ v. IsList IsItem [] v) (ok_is e) no_items
  list_within (suc n) (w ∷ ws) xs e =
      let first = bind_ok (turn_at item (w ∷ ws)) e in
      let others = bind_ok (many_at itself (turn_at item) n first.0.1) first.2 in
      let h = turn_sound item (w ∷ ws) first.0.0 first.0.1 first.1 in
      subst (λ v. IsList IsItem (w ∷ ws) v) (ok_is others.2)
      (elim (comma_read h.0 first.0.1 h.2) [
        | inl k ↦ let nothing_left = none_left itself (turn_at item) n others.0 (ap (many_at itself (turn_at item) n) (sym k.1) ∙ others.1) in
            subst (λ v. IsList IsItem (w ∷ ws) (first.0.0 ∷ v)) (sym nothing_left) (last_item (sound (w ∷ ws) first.0.0 [] (subst (λ v. item (w ∷ ws) ≡ Ok (first.0.0, v)) k.0 h.1)))
        | inr k ↦ more_items (sound (w ∷ ws) first.0.0 _ (subst (λ v. item (w ∷ ws) ≡ Ok (first.0.0, v)) k.1 h.1)) (list_within n first.0.1 others.0 others.1)
      ])

  pub list_sound : (ws : List Word) (xs : List A) → list_of item ws ≡ Ok xs → IsList IsItem ws xs
  unfolding many_of
  list_sound ws xs e = list_within (suc (length ws)) ws xs e
