-- What stands in a list of instances, and the targets of one.
use Rattle.std.proofs.Common.{◌≡◌, ◌<◌, ◌≤◌, ◌⊎◌, inl, inr, ℕ, zero, suc, List, [], ◌∷◌, ◌++◌, length, get_or, refl, ap, sym, ◌∙◌, subst, arith}
use Rattle.inlining.specs.Inlining.{targets_of, IsAmong}

pub among_at : (ts : List ℕ) (i d : ℕ) → i < length ts → IsAmong (get_or ts i d) ts
among_at [] i d h = absurd (omega arith)
among_at (t ∷ ts) zero d h = inl refl
among_at (t ∷ ts) (suc i) d h = inr (among_at ts i d (omega arith))

pub among-left : (t : ℕ) (xs ys : List ℕ) → IsAmong t xs → IsAmong t (xs ++ ys)
among-left t [] ys h = absurd h
among-left t (x ∷ xs) ys (inl e) = inl e
among-left t (x ∷ xs) ys (inr h) = inr (among-left t xs ys h)

pub among-right : (t : ℕ) (xs ys : List ℕ) → IsAmong t ys → IsAmong t (xs ++ ys)
among-right t [] ys h = h
among-right t (x ∷ xs) ys h = inr (among-right t xs ys h)

pub among_cases : (t : ℕ) (xs ys : List ℕ) → IsAmong t (xs ++ ys) → IsAmong t xs ⊎ IsAmong t ys
among_cases t [] ys h = inr h
among_cases t (x ∷ xs) ys (inl e) = inl (inl e)
among_cases t (x ∷ xs) ys (inr h) = by (among_cases t xs ys h)
  where
    by : IsAmong t xs ⊎ IsAmong t ys → IsAmong t (x ∷ xs) ⊎ IsAmong t ys
    by (inl i) = inl (inr i)
    by (inr i) = inr i

pub targets_at : (g : List (List ℕ)) (d : ℕ) (ts : List ℕ) → d < length g → targets_of g d ≡ get_or g d ts
targets_at [] d ts h = absurd (omega arith)
targets_at (us ∷ g) zero ts h = refl
targets_at (us ∷ g) (suc d) ts h = targets_at g d ts (omega arith)

pub targets_past : (g : List (List ℕ)) (d : ℕ) → length g ≤ d → targets_of g d ≡ []
targets_past [] d h = refl
targets_past (us ∷ g) zero h = absurd (omega arith)
targets_past (us ∷ g) (suc d) h = targets_past g d (omega arith)

-- the links of one whose number was read
pub links_read : (g : List (List ℕ)) (d e : ℕ) (ts us : List ℕ) → d < length g → d ≡ e → us ≡ get_or g d ts → us ≡ targets_of g e
links_read g d e ts us h same is = is ∙ sym (targets_at g d ts h) ∙ ap (targets_of g) same

pub linked_below : (g : List (List ℕ)) (d count n : ℕ) (ts us : List ℕ) → d < length g → us ≡ get_or g d ts → ((e m : ℕ) → IsAmong m (targets_of g e) → m < count) → IsAmong n us → n < count
linked_below g d count n ts us h is all i = all d n (subst (IsAmong n) (links_read g d d ts us h refl is) i)
