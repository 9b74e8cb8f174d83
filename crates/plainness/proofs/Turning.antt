-- Edges that are turned round one after another.
use Rattle.std.proofs.Common.{◌≡◌, ◌<◌, ◌≤◌, ◌↔◌, ◌⊎◌, inl, inr, ℕ, zero, suc, ◌+◌, List, [], ◌∷◌, ◌++◌, length, take, get_or, set, refl, ap, sym, ◌∙◌, subst, arith}
use Rattle.std.proofs.lemmas.Bool.{cases_eq}
use Rattle.std.proofs.lemmas.List.{take_more}
use Rattle.inlining.specs.Inlining.{targets_of, IsAmong}
use Rattle.inlining.proofs.Laws.{among-left, among-right, among_cases}
use Rattle.plainness.specs.Edges.{AreAdded, AreTurned}
use Rattle.plainness.proofs.Numbered.{below-next, targets-within}

-- ---- one number more

set-same : (g : List (List ℕ)) (d : ℕ) (ts : List ℕ) → d < length g → targets_of (set g d ts) d ≡ ts
set-same [] d ts l = absurd (omega (arith, l))
set-same (us ∷ g) zero ts l = refl
set-same (us ∷ g) (suc d) ts l = set-same g d ts (omega (arith, l))

set-other : (g : List (List ℕ)) (d e : ℕ) (ts : List ℕ) → ¬ (e ≡ d) → targets_of (set g d ts) e ≡ targets_of g e
set-other [] d e ts n = refl
set-other (us ∷ g) zero zero ts n = absurd (n refl)
set-other (us ∷ g) zero (suc e) ts n = refl
set-other (us ∷ g) (suc d) zero ts n = refl
set-other (us ∷ g) (suc d) (suc e) ts n = set-other g d e ts (λ same. n (ap suc same))

only-one : (n m : ℕ) → IsAmong n (m ∷ []) → n ≡ m
only-one n m (inl e) = e
only-one n m (inr i) = absurd i

module _ (g : List (List ℕ)) (p number : ℕ) (l : p < length g) where
  abbrev longer : List (List ℕ)
  longer = set g p (targets_of g p ++ number ∷ [])

  abbrev IsOld : ℕ → ℕ → Type 0
  IsOld m n = IsAmong n (targets_of g m) ⊎ ((m ≡ p) × (n ≡ number))

  here : targets_of longer p ≡ targets_of g p ++ number ∷ []
  here = set-same g p (targets_of g p ++ number ∷ []) l

  to-old : (m n : ℕ) → IsAmong n (targets_of longer m) → IsOld m n
  to-old m n i = by (cases_eq m p)
    where
      at : m ≡ p → IsAmong n (targets_of g p) ⊎ IsAmong n (number ∷ []) → IsOld m n
      at e (inl j) = inl (subst (λ k. IsAmong n (targets_of g k)) (sym e) j)
      at e (inr j) = inr (e, only-one n number j)

      by : (m ≡ p) ⊎ ¬ (m ≡ p) → IsOld m n
      by (inl e) = at e (among_cases n (targets_of g p) (number ∷ []) (subst (IsAmong n) (ap (targets_of longer) e ∙ here) i))
      by (inr o) = inl (subst (IsAmong n) (set-other g p m (targets_of g p ++ number ∷ []) o) i)

  from-old : (m n : ℕ) → IsOld m n → IsAmong n (targets_of longer m)
  from-old m n (inl i) = by (cases_eq m p)
    where
      by : (m ≡ p) ⊎ ¬ (m ≡ p) → IsAmong n (targets_of longer m)
      by (inl e) = subst (IsAmong n) (sym (ap (targets_of longer) e ∙ here)) (among-left n (targets_of g p) (number ∷ []) (subst (λ k. IsAmong n (targets_of g k)) e i))
      by (inr o) = subst (IsAmong n) (sym (set-other g p m (targets_of g p ++ number ∷ []) o)) i
  from-old m n (inr h) = subst (IsAmong n) (sym (ap (targets_of longer) h.0 ∙ here)) (among-right n (targets_of g p) (number ∷ []) (inl h.1))

  -- ---- at each of the places

  module _ (before : List (List ℕ)) (places : List ℕ) (k : ℕ) (at : k < length places) (is : p ≡ get_or places k 0) (added : AreAdded before (take k places) number g) where
    more : take (k + 1) places ≡ take k places ++ p ∷ []
    more = take_more places k 0 at ∙ ap (λ q. take k places ++ q ∷ []) (sym is)

    abbrev IsNew : ℕ → ℕ → Type 0
    IsNew m n = IsAmong n (targets_of before m) ⊎ (IsAmong m (take (k + 1) places) × (n ≡ number))

    to-new : (m n : ℕ) → IsOld m n → IsNew m n
    to-new m n (inr h) = inr (subst (IsAmong m) (sym more) (among-right m (take k places) (p ∷ []) (inl h.0)), h.1)
    to-new m n (inl i) = by ((added.each m n).0 i)
      where
        by : IsAmong n (targets_of before m) ⊎ (IsAmong m (take k places) × (n ≡ number)) → IsNew m n
        by (inl j) = inl j
        by (inr h) = inr (subst (IsAmong m) (sym more) (among-left m (take k places) (p ∷ []) h.0), h.1)

    from-new : (m n : ℕ) → IsNew m n → IsOld m n
    from-new m n (inl i) = inl ((added.each m n).1 (inl i))
    from-new m n (inr h) = by (among_cases m (take k places) (p ∷ []) (subst (IsAmong m) more h.0))
      where
        by : IsAmong m (take k places) ⊎ IsAmong m (p ∷ []) → IsOld m n
        by (inl i) = inl ((added.each m n).1 (inr (i, h.1)))
        by (inr i) = inr (only-one m p i, h.1)

    pub added-more : AreAdded before (take (k + 1) places) number longer
    added-more = record { each = λ m n. (λ i. to-new m n (to-old m n i), λ h. from-old m n (from-new m n h)) }

-- ---- of each number

-- the edges of the numbers below one are turned round
pub record AreTurnedBelow (edges : List (List ℕ)) (from : ℕ) (turned : List (List ℕ)) : Type 0 where
  pub many : length turned ≡ length edges
  pub each : (m n : ℕ) → IsAmong n (targets_of turned m) ↔ ((n < from) × IsAmong m (targets_of edges n))

pub turned-none : (edges turned : List (List ℕ)) → length turned ≡ length edges → ((n m : ℕ) → ¬ (IsAmong m (targets_of turned n))) → AreTurnedBelow edges 0 turned
turned-none edges turned many none = record { many = many; each = λ m n. (λ i. absurd (none m n i), λ h. absurd (omega (arith, h.0))) }

pub turned-more : (edges turned after : List (List ℕ)) (from : ℕ) → length after ≡ length turned → AreTurnedBelow edges from turned → AreAdded turned (targets_of edges from) from after → AreTurnedBelow edges (from + 1) after
turned-more edges turned after from same below added = record { many = same ∙ below.many; each = λ m n. (λ i. to m n ((added.each m n).0 i), λ h. back m n (below-next n from h.0) h.1) }
  where
    to : (m n : ℕ) → IsAmong n (targets_of turned m) ⊎ (IsAmong m (targets_of edges from) × (n ≡ from)) → (n < from + 1) × IsAmong m (targets_of edges n)
    to m n (inl i) = let h : (n < from) × IsAmong m (targets_of edges n) = (below.each m n).0 i in (omega (arith, h.0), h.1)
    to m n (inr h) = (omega (arith, h.1), subst (λ k. IsAmong m (targets_of edges k)) (sym h.1) h.0)

    back : (m n : ℕ) → (n < from) ⊎ (n ≡ from) → IsAmong m (targets_of edges n) → IsAmong n (targets_of after m)
    back m n (inl l) i = (added.each m n).1 (inl ((below.each m n).1 (l, i)))
    back m n (inr e) i = (added.each m n).1 (inr (subst (λ k. IsAmong m (targets_of edges k)) e i, e))

pub turned-all : (edges turned : List (List ℕ)) (from : ℕ) → length edges ≤ from → AreTurnedBelow edges from turned → AreTurned edges turned
turned-all edges turned from l below = record { many = below.many; each = λ m n. (λ i. ((below.each m n).0 i).1, λ i. let h : n < length edges = targets-within edges n m i in (below.each m n).1 (omega (arith, h, l), i)) }
