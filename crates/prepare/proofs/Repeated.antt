-- Readers that are called again and again, as long as they find something.
use Rattle.std.proofs.Common.{◌≡◌, ◌∙◌, ℕ, zero, suc, ◌<◌, ◌≤◌, List, [], ◌∷◌, length, refl, ap, sym, arith, inl, inr, Option, None, Some}
use Rattle.std.specs.Prelude.{codes}
use Rattle.tokens.specs.Trees.{Tree}
use Rattle.prepare.specs.Trees.{is_sign, is_square, is_inner_doc, is_outer_doc}
use Rattle.prepare.specs.Attributes.{square_at, bang_at, attribute_at, inner_at, after_all_from, after_all_within, after_all, after_attributes, after_inner}
use Rattle.prepare.proofs.Behind.{IsBehind, same, then_behind, weakly, past, GoesPast, length_past, either, not_none, first_past}

module _ (one : List Tree → Option (List Tree)) (goes : GoesPast one) where
  same_from : (n m : ℕ) (ts : List Tree) (r : Option (List Tree)) → one ts ≡ r → ((rest : List Tree) → length rest < length ts → after_all_within one n rest ≡ after_all_within one m rest)
      → after_all_from (after_all_within one n) ts r ≡ after_all_from (after_all_within one m) ts r
  same_from n m ts None e h = refl
  same_from n m ts (Some rest) e h = h rest (length_past (goes ts rest e))

  from_nothing : (r : Option (List Tree)) (again : List Tree → List Tree) → one [] ≡ r → after_all_from again [] r ≡ []
  from_nothing None again e = refl
  from_nothing (Some rest) again e = elim (goes [] rest e) [ ]

  nothing : (n : ℕ) → after_all_within one n [] ≡ []
  nothing zero = refl
  nothing (suc n) = from_nothing (one []) (after_all_within one n) refl

  enough : (n m : ℕ) (ts : List Tree) → length ts ≤ n → length ts ≤ m → after_all_within one n ts ≡ after_all_within one m ts
  enough n m [] a b = nothing n ∙ sym (nothing m)
  enough zero m (t ∷ ts) a b = absurd (omega arith)
  enough (suc n) zero (t ∷ ts) a b = absurd (omega arith)
  enough (suc n) (suc m) (t ∷ ts) a b = same_from n m (t ∷ ts) (one (t ∷ ts)) refl (λ rest less. enough n m rest (omega arith) (omega arith))

  pub all_step : (ts rest : List Tree) → one ts ≡ Some rest → after_all one ts ≡ after_all one rest
  all_step [] rest e = elim (goes [] rest e) [ ]
  all_step (t ∷ ts) rest e =
      let less = length_past (goes (t ∷ ts) rest e) in
      ap (after_all_from (after_all_within one (length ts)) (t ∷ ts)) e ∙ enough (length ts) (length rest) rest (omega arith) (omega arith)

  pub all_stop : (ts : List Tree) → one ts ≡ None → after_all one ts ≡ ts
  all_stop [] e = refl
  all_stop (t ∷ ts) e = ap (after_all_from (after_all_within one (length ts)) (t ∷ ts)) e

  behind_from : (again : List Tree → List Tree) (ts : List Tree) (r : Option (List Tree)) → one ts ≡ r → ((rest : List Tree) → IsBehind (again rest) rest) → IsBehind (after_all_from again ts r) ts
  behind_from again ts None e h = same
  behind_from again ts (Some rest) e h = then_behind (h rest) (weakly (goes ts rest e))

  behind_within : (n : ℕ) (ts : List Tree) → IsBehind (after_all_within one n ts) ts
  behind_within zero ts = same
  behind_within (suc n) ts = behind_from (after_all_within one n) ts (one ts) refl (behind_within n)

  pub all_behind : (ts : List Tree) → IsBehind (after_all one ts) ts
  all_behind ts = behind_within (length ts) ts

-- ---- attributes
square_past : GoesPast square_at
square_past [] rest e = not_none e
square_past (t ∷ ts) rest e = elim (either (is_square t) e) [ inl h ↦ first_past h | inr h ↦ not_none h ]

bang_past : GoesPast bang_at
bang_past [] rest e = not_none e
bang_past (t ∷ ts) rest e = elim (either (is_sign (codes "!") t) e) [ inl h ↦ past (weakly (square_past ts rest h)) | inr h ↦ not_none h ]

pub attribute_past : GoesPast attribute_at
attribute_past [] rest e = not_none e
attribute_past (t ∷ ts) rest e = elim (either (is_outer_doc t) e) [
  | inl h ↦ first_past h
  | inr h ↦ elim (either (is_sign (codes "#") t) h) [ inl g ↦ past (weakly (square_past ts rest g)) | inr g ↦ not_none g ]
]

pub inner_past : GoesPast inner_at
inner_past [] rest e = not_none e
inner_past (t ∷ ts) rest e = elim (either (is_inner_doc t) e) [
  | inl h ↦ first_past h
  | inr h ↦ elim (either (is_sign (codes "#") t) h) [ inl g ↦ past (weakly (bang_past ts rest g)) | inr g ↦ not_none g ]
]

pub attributes_step : (ts rest : List Tree) → attribute_at ts ≡ Some rest → after_attributes ts ≡ after_attributes rest
unfolding after_attributes
attributes_step = all_step attribute_at attribute_past

pub attributes_stop : (ts : List Tree) → attribute_at ts ≡ None → after_attributes ts ≡ ts
unfolding after_attributes
attributes_stop = all_stop attribute_at attribute_past

pub attributes_behind : (ts : List Tree) → IsBehind (after_attributes ts) ts
unfolding after_attributes
attributes_behind = all_behind attribute_at attribute_past

pub inner_step : (ts rest : List Tree) → inner_at ts ≡ Some rest → after_inner ts ≡ after_inner rest
unfolding after_inner
inner_step = all_step inner_at inner_past

pub inner_stop : (ts : List Tree) → inner_at ts ≡ None → after_inner ts ≡ ts
unfolding after_inner
inner_stop = all_stop inner_at inner_past

pub inner_behind : (ts : List Tree) → IsBehind (after_inner ts) ts
unfolding after_inner
inner_behind = all_behind inner_at inner_past
