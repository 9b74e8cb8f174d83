-- Orders in which no instance stands twice.
use Rattle.std.proofs.Common.{◌⊎◌, inl, inr, ℕ, zero, suc, List, [], ◌∷◌, ◌++◌, length, Bool, true, false, not, ◌&&◌, cond, IsTrue, refl, sym, ◌∙◌, arith}
use Rattle.std.proofs.lemmas.Bool.{false≢true}
use Rattle.inlining.specs.Inlining.{IsAmong, AreTargets, AreBehind, AreOnce}
use Rattle.inlining.specs.Marks.{mark, marks_of, new_marks}
use Rattle.inlining.proofs.Among.{among_cases}
use Rattle.inlining.proofs.Marks.{new_at, among_cond, new_are_marked, marked_still}
use Rattle.inlining.proofs.Orders.{behind_of}

pub once_append : (ds more : List ℕ) → AreOnce ds → AreOnce more → ((d : ℕ) → IsAmong d ds → IsAmong d more → ⊥) → AreOnce (ds ++ more)
once_append [] more o m apart = m
once_append (e ∷ ds) more o m apart = (λ i. here (among_cases e ds more i), once_append ds more o.1 m (λ d i. apart d (inr i)))
  where
    here : IsAmong e ds ⊎ IsAmong e more → ⊥
    here (inl i) = o.0 i
    here (inr i) = apart e (inl refl) i

once_cond : (b : Bool) (n : ℕ) → AreOnce (cond b (n ∷ []) [])
once_cond true n = (λ i. i, tt)
once_cond false n = tt

new_once : (before marks : List Bool) (n : ℕ) → AreOnce (new_marks before marks n)
new_once before marks zero = tt
new_once before marks (suc n) =
    once_append (new_marks before marks n) (new_at before marks n) (new_once before marks n) (once_cond (mark marks n && not (mark before n)) n)
    (λ d i j.
    let below = (new_are_marked before marks n d i).0 in
    let same = (among_cond (mark marks n && not (mark before n)) d n j).0 in
    omega (arith, below, same))

-- each instance of the order is marked
abbrev pub AreMarked : List Bool → List ℕ → Type 0
AreMarked marks order = (d : ℕ) → IsAmong d order → IsTrue (mark marks d)

-- a round adds what was not marked, so what was not in the order
pub once_more : (g : List (List ℕ)) (before marks : List Bool) (order : List ℕ) → AreMarked before order → AreOnce order → AreOnce (order ++ new_marks before marks (length g))
once_more g before marks order all o =
    once_append order (new_marks before marks (length g)) o (new_once before marks (length g))
    (λ d i j. false≢true (sym (new_are_marked before marks (length g) d j).2 ∙ all d i))

pub marked_more : (g : List (List ℕ)) (n : ℕ) (order : List ℕ) → AreTargets g → AreBehind g [] order → AreMarked (marks_of g n) order → AreMarked (marks_of g (suc n)) (order ++ new_marks (marks_of g n) (marks_of g (suc n)) (length g))
marked_more g n order targets behind all d h = by (among_cases d order (new_marks (marks_of g n) (marks_of g (suc n)) (length g)) h)
  where
    by : IsAmong d order ⊎ IsAmong d (new_marks (marks_of g n) (marks_of g (suc n)) (length g)) → IsTrue (mark (marks_of g (suc n)) d)
    by (inl i) = marked_still g n d targets (behind_of g [] order d behind i).0 (all d i)
    by (inr i) = (new_are_marked (marks_of g n) (marks_of g (suc n)) (length g) d i).1
