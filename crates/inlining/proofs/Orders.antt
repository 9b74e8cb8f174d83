-- Orders that grow at their end.
use Rattle.std.proofs.Common.{◌≡◌, ◌<◌, ◌≤◌, ◌⊎◌, inl, inr, ℕ, zero, suc, List, [], ◌∷◌, ◌++◌, length, take, get_or, Bool, true, false, IsTrue, refl, sym, subst, arith, append_assoc}
use Rattle.std.proofs.lemmas.Bool.{cases_Bool, cases_lt}
use Rattle.std.proofs.lemmas.List.{append-nil}
use Rattle.inlining.specs.Inlining.{targets_of, IsAmong, AreTargets, IsAtMost, AreBehind, AreOnce, IsOrder}
use Rattle.inlining.specs.Marks.{mark, next_marks, marks_of, new_marks}
use Rattle.inlining.proofs.Among.{among-left, among-right, targets_past}
use Rattle.inlining.proofs.Marks.{target_marked, new_are_marked, new_among}
use Rattle.inlining.proofs.Paths.{at_most_from_marks}

-- what stands in one of the lists
abbrev pub IsSeen : List ℕ → List ℕ → ℕ → Type 0
IsSeen seen ds t = IsAmong t seen ⊎ IsAmong t ds

seen_on : (e : ℕ) (seen ds : List ℕ) (t : ℕ) → IsSeen seen (e ∷ ds) t → IsSeen (e ∷ seen) ds t
seen_on e seen ds t (inl i) = inl (inr i)
seen_on e seen ds t (inr (inl i)) = inl (inl i)
seen_on e seen ds t (inr (inr i)) = inr i

seen_back : (e : ℕ) (seen ds : List ℕ) (t : ℕ) → IsSeen (e ∷ seen) ds t → IsSeen seen (e ∷ ds) t
seen_back e seen ds t (inl (inl i)) = inr (inl i)
seen_back e seen ds t (inl (inr i)) = inl i
seen_back e seen ds t (inr i) = inr (inr i)

pub seen_only : (ds : List ℕ) (t : ℕ) → IsSeen [] ds t → IsAmong t ds
seen_only ds t (inl i) = absurd i
seen_only ds t (inr i) = i

seen_none : (seen : List ℕ) (t : ℕ) → IsSeen seen [] t → IsAmong t seen
seen_none seen t (inl i) = i
seen_none seen t (inr i) = absurd i

behind_push : (g : List (List ℕ)) (seen ds : List ℕ) (d : ℕ) → AreBehind g seen ds → d < length g → ((t : ℕ) → IsAmong t (targets_of g d) → IsSeen seen ds t) → AreBehind g seen (ds ++ d ∷ [])
behind_push g seen [] d b h s = (h, λ t i. seen_none seen t (s t i), tt)
behind_push g seen (e ∷ ds) d b h s = (b.0, b.1, behind_push g (e ∷ seen) ds d b.2 h (λ t i. seen_on e seen ds t (s t i)))

-- more instances, of which each stands behind its targets
pub behind_append : (g : List (List ℕ)) (ds more : List ℕ) → AreBehind g [] ds → ((d : ℕ) → IsAmong d more → (d < length g) × ((t : ℕ) → IsAmong t (targets_of g d) → IsAmong t ds)) → AreBehind g [] (ds ++ more)
behind_append g ds [] b all = rw (append-nil ds) b
behind_append g ds (d ∷ more) b all =
    let here = all d (inl refl) in
    subst (AreBehind g []) (append_assoc ds (d ∷ []) more)
    (behind_append g (ds ++ d ∷ []) more (behind_push g [] ds d b here.0 (λ t i. inr (here.1 t i)))
    (λ e i. let later = all e (inr i) in (later.0, λ t j. among-left t ds (d ∷ []) (later.1 t j))))

-- each instance that is marked stands in the order
abbrev pub AreOrdered : List (List ℕ) → List Bool → List ℕ → Type 0
AreOrdered g marks order = (d : ℕ) → d < length g → IsTrue (mark marks d) → IsAmong d order

pub ordered_more : (g : List (List ℕ)) (before marks : List Bool) (order : List ℕ) → AreOrdered g before order → AreOrdered g marks (order ++ new_marks before marks (length g))
ordered_more g before marks order all d h m = by (cases_Bool (mark before d))
  where
    by : (mark before d ≡ true) ⊎ (mark before d ≡ false) → IsAmong d (order ++ new_marks before marks (length g))
    by (inl b) = among-left d order (new_marks before marks (length g)) (all d h b)
    by (inr b) = among-right d order (new_marks before marks (length g)) (new_among before marks (length g) d h m b)

pub behind_more : (g : List (List ℕ)) (marks : List Bool) (order : List ℕ) → AreTargets g → AreOrdered g marks order → AreBehind g [] order → AreBehind g [] (order ++ new_marks marks (next_marks g marks) (length g))
behind_more g marks order targets all b =
    behind_append g order (new_marks marks (next_marks g marks) (length g)) b
    (λ d i.
    let new = new_are_marked marks (next_marks g marks) (length g) d i in
    (new.0, λ t j. all t (targets d t j) (target_marked g marks d t new.0 new.1 j)))

-- ---- at the end

pub is_within : (g : List (List ℕ)) (n most : ℕ) (order : List ℕ) → n ≤ most → ((d : ℕ) → d < length g → IsTrue (mark (marks_of g n) d)) → AreOrdered g (marks_of g n) order → AreOnce order → AreBehind g [] order →
    IsAtMost most g × IsOrder g order
is_within g n most order h marked ordered once behind = (at_most_from_marks g n most h marked, record { all = λ d l. ordered d l (marked d l); once = once; behind = behind })

-- ---- what stands in an order

pub behind_of : (g : List (List ℕ)) (seen ds : List ℕ) (d : ℕ) → AreBehind g seen ds → IsAmong d ds → (d < length g) × ((t : ℕ) → IsAmong t (targets_of g d) → IsSeen seen ds t)
behind_of g seen [] d b i = absurd i
behind_of g seen (e ∷ ds) d b (inl same) =
    (subst (λ k. k < length g) (sym same) b.0, λ t j. inl (b.1 t (subst (λ k. IsAmong t (targets_of g k)) same j)))
behind_of g seen (e ∷ ds) d b (inr i) =
    let later = behind_of g (e ∷ seen) ds d b.2 i in
    (later.0, λ t j. seen_back e seen ds t (later.1 t j))

-- each stands behind its targets
pub behind_at : (g : List (List ℕ)) (seen ds : List ℕ) (i : ℕ) → AreBehind g seen ds → i < length ds → (get_or ds i 0 < length g) × ((t : ℕ) → IsAmong t (targets_of g (get_or ds i 0)) → IsSeen seen (take i ds) t)
behind_at g seen [] i b h = absurd (omega arith)
behind_at g seen (e ∷ ds) zero b h = (b.0, λ t j. inl (b.1 t j))
behind_at g seen (e ∷ ds) (suc i) b h =
    let later = behind_at g (e ∷ seen) ds i b.2 (omega arith) in
    (later.0, λ t j. seen_back e seen (take i ds) t (later.1 t j))

-- where there is an order, each target is an instance
pub order_targets : (g : List (List ℕ)) (order : List ℕ) → IsOrder g order → AreTargets g
order_targets g order is d t j = by (cases_lt d (length g))
  where
    by : (d < length g) ⊎ (length g ≤ d) → t < length g
    by (inl h) =
        let behind = (behind_of g [] order d is.behind (is.all d h)).1 t j in
        (behind_of g [] order t is.behind (seen_only order t behind)).0
    by (inr h) = absurd (subst (IsAmong t) (targets_past g d h) j)
