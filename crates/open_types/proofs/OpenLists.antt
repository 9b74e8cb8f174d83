-- Lists of open types, by what they are.
use Rattle.std.proofs.Common.{◌≡◌, ℕ, zero, suc, ◌<◌, ◌≤◌, List, [], ◌∷◌, ◌++◌, ◌+◌, ◌-◌, length, get_or, drop, refl, ap, ◌∙◌, arith, add-one, drop-cons}
use Rattle.std.proofs.lemmas.List.{drop_all}
use Rattle.open_types.specs.Open.{Opens, no_types, more_types, param, open_view, opens_view, argument_at, substituted, all_substituted, AreClosed, IsClosed}
use Rattle.open_types.specs.declared.open_type.OpenType.{OpenType}

abbrev pub append : Opens → Opens → Opens
append no_types us = us
append (more_types t ts) us = more_types t (append ts us)

pub argument_at-views : (ts : List OpenType) (n : ℕ) (d : OpenType) → n < length ts → argument_at (opens_view ts) n ≡ open_view (get_or ts n d)
argument_at-views [] n d h = absurd (omega arith)
argument_at-views (t ∷ ts) zero d h = refl
argument_at-views (t ∷ ts) (suc n) d h = argument_at-views ts n d (omega arith)

-- past the end the place is counted from there
pub argument_at-past : (ts : List OpenType) (n : ℕ) → length ts ≤ n → argument_at (opens_view ts) n ≡ param (n - length ts)
argument_at-past [] n h = let none : n ≡ n - 0 = omega arith in ap param none
argument_at-past (t ∷ ts) zero h = absurd (omega arith)
argument_at-past (t ∷ ts) (suc n) h =
    let less : n - length ts ≡ suc n - suc (length ts) = omega arith in
    argument_at-past ts n (omega arith) ∙ ap param less

pub push_views : (ts : List OpenType) (t : OpenType) (us : Opens) → append (opens_view (ts ++ t ∷ [])) us ≡ append (opens_view ts) (more_types (open_view t) us)
push_views [] t us = refl
push_views (u ∷ ts) t us = ap (more_types (open_view u)) (push_views ts t us)

pub append_none : (us : Opens) → append us no_types ≡ us
append_none no_types = refl
append_none (more_types t ts) = ap (more_types t) (append_none ts)

pub AreClosed_push : (ts : List OpenType) (t : OpenType) → AreClosed (opens_view ts) → IsClosed (open_view t) → AreClosed (opens_view (ts ++ t ∷ []))
AreClosed_push [] t h i = (i, tt)
AreClosed_push (u ∷ ts) t h i = (h.0, AreClosed_push ts t h.1 i)

-- the first of the rest
views_drop : (ts : List OpenType) (i : ℕ) (t : OpenType) → i < length ts → t ≡ get_or ts i t → opens_view (drop i ts) ≡ more_types (open_view t) (opens_view (drop (i + 1) ts))
views_drop ts i t h e = rw (add-one, drop-cons ts i t, ← e)

-- a turn of the loop that substitutes in each of the types
pub turn : (args : Opens) (made ts : List OpenType) (i : ℕ) (t u : OpenType) → i < length ts → t ≡ get_or ts i t → open_view u ≡ substituted args (open_view t)
    → append (opens_view made) (all_substituted args (opens_view (drop i ts))) ≡ append (opens_view (made ++ u ∷ [])) (all_substituted args (opens_view (drop (i + 1) ts)))
turn args made ts i t u h e s = rw (views_drop ts i t h e, push_views, s)

-- the same, where the loop ends
pub turned : (args : Opens) (made ts : List OpenType) (i : ℕ) → length ts ≤ i → append (opens_view made) (all_substituted args (opens_view (drop i ts))) ≡ opens_view made
turned args made ts i h = rw (drop_all i ts h, append_none)
