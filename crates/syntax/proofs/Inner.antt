-- The inner docs and attributes that a source begins with, one after another.
use Rattle.std.proofs.Common.{◌≡◌, ◌∙◌, ℕ, zero, suc, ◌<◌, ◌≤◌, List, [], ◌∷◌, length, refl, ap, sym, arith, Bool, true, false, cond, Result, Ok, Err}
use Rattle.words.specs.declared.vocabulary.Sign.TheVariants.{Hash, Exclamation}
use Rattle.words.specs.Words.{Word}
use Rattle.words.specs.Reading.{Fault, wrong, as_sign, as_group, sign_at, group_at}
use Rattle.tokens.specs.declared.token.Bracket.TheVariants.{Square}
use Rattle.attributes.specs.AttributeWords.{is_inner_doc}
use Rattle.syntax.specs.ItemReading.{after_inner_attribute, inner_at, inner_from, after_inner_within, after_inner}
use Rattle.words.proofs.Laws.{bind_ok, first_shortens}

attribute_shortens : (ws us : List Word) → after_inner_attribute ws ≡ Ok us → length us < length ws
attribute_shortens ws us e =
    let h = bind_ok (sign_at Hash ws) e in
    let x = bind_ok (sign_at Exclamation h.0.1) h.2 in
    let g = bind_ok (group_at Square x.0.1) x.2 in
    let same : g.0.1 ≡ us = cc in
    let a = first_shortens (as_sign Hash) ws h.0 h.1 in
    let b = first_shortens (as_sign Exclamation) h.0.1 x.0 x.1 in
    let d = first_shortens (as_group Square) x.0.1 g.0 g.1 in
    let last = ap length same in
    omega arith

shortens_if : (b : Bool) (ws us vs : List Word) (r : Result (List Word) Fault) → (r ≡ Ok us → length us < suc (length ws)) → cond b (Ok ws) r ≡ Ok us → length us < suc (length ws)
shortens_if true ws us vs r h e = let same : ws ≡ us = cc in let l = ap length same in omega arith
shortens_if false ws us vs r h e = h e

pub inner_shortens : (ws us : List Word) → inner_at ws ≡ Ok us → length us < length ws
inner_shortens [] us e = cc
inner_shortens (w ∷ ws) us e = shortens_if (is_inner_doc w) ws us ws (after_inner_attribute (w ∷ ws)) (attribute_shortens (w ∷ ws) us) e

same_from : (n m : ℕ) (ws : List Word) (r : Result (List Word) Fault) → inner_at ws ≡ r → ((us : List Word) → length us < length ws → after_inner_within n us ≡ after_inner_within m us)
    → inner_from (after_inner_within n) ws r ≡ inner_from (after_inner_within m) ws r
same_from n m ws (Err e) is h = refl
same_from n m ws (Ok us) is h = h us (inner_shortens ws us is)

from_nothing : (n : ℕ) → after_inner_within n [] ≡ []
unfolding after_inner_within
from_nothing zero = refl
from_nothing (suc n) = refl

enough : (n m : ℕ) (ws : List Word) → length ws ≤ n → length ws ≤ m → after_inner_within n ws ≡ after_inner_within m ws
unfolding after_inner_within
enough n m [] a b = from_nothing n ∙ sym (from_nothing m)
enough zero m (w ∷ ws) a b = absurd (omega arith)
enough (suc n) zero (w ∷ ws) a b = absurd (omega arith)
enough (suc n) (suc m) (w ∷ ws) a b = same_from n m (w ∷ ws) (inner_at (w ∷ ws)) refl (λ us less. enough n m us (omega arith) (omega arith))

pub inner_step : (ws us : List Word) → inner_at ws ≡ Ok us → after_inner ws ≡ after_inner us
unfolding after_inner after_inner_within
inner_step [] us e = cc
inner_step (w ∷ ws) us e =
    let less = inner_shortens (w ∷ ws) us e in
    ap (inner_from (after_inner_within (length ws)) (w ∷ ws)) e ∙ enough (length ws) (length us) us (omega arith) (omega arith)

pub inner_stop : (ws : List Word) → inner_at ws ≡ Err wrong → after_inner ws ≡ ws
unfolding after_inner after_inner_within
inner_stop [] e = refl
inner_stop (w ∷ ws) e = ap (inner_from (after_inner_within (length ws)) (w ∷ ws)) e
