-- What marks say of instances and their targets.
use Rattle.std.proofs.Common.{◌≡◌, ◌<◌, ◌≤◌, ◌⊎◌, inl, inr, ℕ, zero, suc, ◌+◌, List, [], ◌∷◌, ◌++◌, length, take, get_or, Bool, true, false, not, ◌&&◌, cond, IsTrue, Option, Some, None, MatchOption, is_some, refl, ap, sym, ◌∙◌, subst, arith}
use Rattle.std.proofs.lemmas.Bool.{and_parts, and_from, cases_Bool, cases_lt, false≢true, not_from_false, not-false, not-true}
use Rattle.std.proofs.lemmas.List.{take_more, get_or-map, get_or_push, get_or_read, get_or_append_left, length-map, length_push}
use Rattle.inlining.specs.Inlining.{targets_of, IsAmong, AreTargets}
use Rattle.inlining.specs.Marks.{mark, are_marked, no_marks, next_marks, marks_of, AreRounds, new_marks}
use Rattle.inlining.proofs.Among.{among-left, among-right, among_cases, targets_at}

-- ---- targets

are_marked-push : (marks : List Bool) (ts : List ℕ) (t : ℕ) → IsTrue (are_marked marks ts) → IsTrue (mark marks t) → IsTrue (are_marked marks (ts ++ t ∷ []))
are_marked-push marks [] t a m = and_from (mark marks t) true m refl
are_marked-push marks (u ∷ ts) t a m =
    let parts = and_parts (mark marks u) (are_marked marks ts) a in
    and_from (mark marks u) (are_marked marks (ts ++ t ∷ [])) parts.0 (are_marked-push marks ts t parts.1 m)

pub are_marked_more : (marks : List Bool) (ts : List ℕ) (i d : ℕ) → i < length ts → IsTrue (are_marked marks (take i ts)) → IsTrue (mark marks (get_or ts i d)) → IsTrue (are_marked marks (take (i + 1) ts))
are_marked_more marks ts i d h a m = rw (take_more ts i d h) (are_marked-push marks (take i ts) (get_or ts i d) a m)

pub marked_at : (marks : List Bool) (ts : List ℕ) (t : ℕ) → IsTrue (are_marked marks ts) → IsAmong t ts → IsTrue (mark marks t)
marked_at marks [] t a h = absurd h
marked_at marks (u ∷ ts) t a (inl e) = subst (λ v. IsTrue (mark marks v)) (sym e) (and_parts (mark marks u) (are_marked marks ts) a).0
marked_at marks (u ∷ ts) t a (inr h) = marked_at marks ts t (and_parts (mark marks u) (are_marked marks ts) a).1 h

-- a target without a mark
pub unmarked_at : (marks : List Bool) (ts : List ℕ) (t : ℕ) → IsAmong t ts → mark marks t ≡ false → are_marked marks ts ≡ false
unmarked_at marks ts t h m = by (cases_Bool (are_marked marks ts))
  where
    by : (are_marked marks ts ≡ true) ⊎ (are_marked marks ts ≡ false) → are_marked marks ts ≡ false
    by (inl a) = absurd (false≢true (sym m ∙ marked_at marks ts t a h))
    by (inr a) = a

-- what is marked where the targets were, if their marks stay
are_marked_still : (before marks : List Bool) (ts : List ℕ) → ((t : ℕ) → IsAmong t ts → IsTrue (mark before t) → IsTrue (mark marks t)) → IsTrue (are_marked before ts) → IsTrue (are_marked marks ts)
are_marked_still before marks [] all a = a
are_marked_still before marks (u ∷ ts) all a =
    let parts = and_parts (mark before u) (are_marked before ts) a in
    and_from (mark marks u) (are_marked marks ts) (all u (inl refl) parts.0) (are_marked_still before marks ts (λ t i. all t (inr i)) parts.1)

-- ---- rounds

pub mark-none : (g : List (List ℕ)) (d : ℕ) → mark (no_marks g) d ≡ false
mark-none [] d = refl
mark-none (ts ∷ g) zero = refl
mark-none (ts ∷ g) (suc d) = mark-none g d

pub mark-next : (g : List (List ℕ)) (marks : List Bool) (d : ℕ) → d < length g → mark (next_marks g marks) d ≡ are_marked marks (targets_of g d)
mark-next g marks d h = get_or-map (are_marked marks) g d [] false h ∙ ap (are_marked marks) (sym (targets_at g d [] h))

pub length-next : (g : List (List ℕ)) (marks : List Bool) → length (next_marks g marks) ≡ length g
length-next g marks = length-map g (are_marked marks)

pub length-marks : (g : List (List ℕ)) (n : ℕ) → length (marks_of g n) ≡ length g
length-marks g zero = length-map g (λ _. false)
length-marks g (suc n) = length-next g (marks_of g n)

-- the targets of what a round marks were marked in the round before
pub target_marked : (g : List (List ℕ)) (marks : List Bool) (d t : ℕ) → d < length g → IsTrue (mark (next_marks g marks) d) → IsAmong t (targets_of g d) → IsTrue (mark marks t)
target_marked g marks d t h m i = marked_at marks (targets_of g d) t (sym (mark-next g marks d h) ∙ m) i

-- what a round marked stays marked in the next
pub marked_still : (g : List (List ℕ)) (n d : ℕ) → AreTargets g → d < length g → IsTrue (mark (marks_of g n) d) → IsTrue (mark (marks_of g (suc n)) d)
marked_still g zero d targets h m = absurd (false≢true (sym (mark-none g d) ∙ m))
marked_still g (suc n) d targets h m =
    mark-next g (marks_of g (suc n)) d h
    ∙ are_marked_still (marks_of g n) (marks_of g (suc n)) (targets_of g d) (λ t i. marked_still g n t targets (targets d t i)) (sym (mark-next g (marks_of g n) d h) ∙ m)

before_or_last : (n m : ℕ) → n < suc m → (n < m) ⊎ (n ≡ m)
before_or_last n m h = by (cases_lt n m)
  where
    by : (n < m) ⊎ (m ≤ n) → (n < m) ⊎ (n ≡ m)
    by (inl l) = inl l
    by (inr l) = inr (omega arith)

pub rounds_push : (g : List (List ℕ)) (rounds : List (List Bool)) → AreRounds g rounds → AreRounds g (rounds ++ marks_of g (length rounds) ∷ [])
rounds_push g rounds all n h = by (before_or_last n (length rounds) (omega (arith, h, length_push rounds (marks_of g (length rounds)))))
  where
    by : (n < length rounds) ⊎ (n ≡ length rounds) → get_or (rounds ++ marks_of g (length rounds) ∷ []) n [] ≡ marks_of g n
    by (inl l) = get_or_append_left rounds (marks_of g (length rounds) ∷ []) [] n l ∙ all n l
    by (inr e) = get_or_push rounds (marks_of g (length rounds)) [] n (sym e) ∙ ap (marks_of g) (sym e)

-- the marks of a round that was read
pub round_read : (g : List (List ℕ)) (rounds read : List (List Bool)) (n : ℕ) (item marks : List Bool) → AreRounds g rounds → read ≡ rounds → n < length rounds → item ≡ get_or read n item → marks ≡ item → marks ≡ marks_of g n
round_read g rounds read n item marks are same h is of = of ∙ get_or_read rounds n item h (is ∙ ap (λ (rs : List (List Bool)). get_or rs n item) same) [] ∙ are n h

-- where all marks of a round are set, it marks each instance
pub all_of_round : (g : List (List ℕ)) (n : ℕ) (marks : List Bool) → marks ≡ marks_of g n → ((d : ℕ) → d < length marks → IsTrue (mark marks d)) → (d : ℕ) → d < length g → IsTrue (mark (marks_of g n) d)
all_of_round g n marks round all d h = subst (λ ms. IsTrue (mark ms d)) round (all d (omega (arith, h, ap length round, length-marks g n)))

-- ---- new marks

pub among_cond : (b : Bool) (d n : ℕ) → IsAmong d (cond b (n ∷ []) []) → (d ≡ n) × (b ≡ true)
among_cond true d n (inl e) = (e, refl)
among_cond true d n (inr h) = absurd h
among_cond false d n h = absurd h

among_cond-of : (b : Bool) (d : ℕ) → b ≡ true → IsAmong d (cond b (d ∷ []) [])
among_cond-of true d e = inl refl
among_cond-of false d e = absurd (false≢true e)

-- the place is new
abbrev pub new_at : List Bool → List Bool → ℕ → List ℕ
new_at before marks n = cond (mark marks n && not (mark before n)) (n ∷ []) []

-- what is newly marked is marked, and was not before
abbrev pub IsNew : List Bool → List Bool → ℕ → ℕ → Type 0
IsNew before marks n d = (d < n) × IsTrue (mark marks d) × (mark before d ≡ false)

pub new_are_marked : (before marks : List Bool) (n d : ℕ) → IsAmong d (new_marks before marks n) → IsNew before marks n d
new_are_marked before marks zero d h = absurd h
new_are_marked before marks (suc n) d h = by (among_cases d (new_marks before marks n) (new_at before marks n) h) (new_are_marked before marks n d)
  where
    by : IsAmong d (new_marks before marks n) ⊎ IsAmong d (new_at before marks n) → (IsAmong d (new_marks before marks n) → IsNew before marks n d) → IsNew before marks (suc n) d
    by (inl i) earlier = let r = earlier i in (omega (arith, r.0), r.1, r.2)
    by (inr i) earlier =
        let r = among_cond (mark marks n && not (mark before n)) d n i in
        let parts = and_parts (mark marks n) (not (mark before n)) r.1 in
        (omega (arith, r.0), subst (λ e. IsTrue (mark marks e)) (sym r.0) parts.0, subst (λ e. mark before e ≡ false) (sym r.0) (not-true (mark before n) parts.1))

-- what is marked and was not before is newly marked
pub new_among : (before marks : List Bool) (n d : ℕ) → d < n → IsTrue (mark marks d) → mark before d ≡ false → IsAmong d (new_marks before marks n)
new_among before marks zero d h m u = absurd (omega arith)
new_among before marks (suc n) d h m u = by (before_or_last d n h) (λ l. new_among before marks n d l m u)
  where
    by : (d < n) ⊎ (d ≡ n) → (d < n → IsAmong d (new_marks before marks n)) → IsAmong d (new_marks before marks (suc n))
    by (inl l) earlier = among-left d (new_marks before marks n) (new_at before marks n) (earlier l)
    by (inr e) earlier = among-right d (new_marks before marks n) (new_at before marks n)
        (subst (λ k. IsAmong d (new_at before marks k)) e (among_cond-of (mark marks d && not (mark before d)) d (and_from (mark marks d) (not (mark before d)) m (not_from_false (mark before d) u))))

-- ---- answers

pub none_unmarked : (marks : List Bool) (ts : List ℕ) (o : Option ℕ) (b : Bool) → MatchOption o (IsTrue (are_marked marks ts)) (λ t. IsAmong t ts × (mark marks t ≡ false)) → is_some o ≡ not b → b ≡ are_marked marks ts
none_unmarked marks ts None b m s = not-false b (sym s) ∙ sym m
none_unmarked marks ts (Some t) b m s = not-true b (sym s) ∙ sym (unmarked_at marks ts t m.0 m.1)

pub all_marked : (marks : List Bool) (o : Option ℕ) (b : Bool) → MatchOption o ((d : ℕ) → d < length marks → IsTrue (mark marks d)) (λ d. (d < length marks) × (mark marks d ≡ false)) → is_some o ≡ not b → b ≡ true → (d : ℕ) → d < length marks → IsTrue (mark marks d)
all_marked marks None b m s t = m
all_marked marks (Some e) b m s t = absurd (false≢true (sym (not-true b (sym s)) ∙ t))

pub match_more : {A P Q : Type 0} {S T : A → Type 0} (o : Option A) → (P → Q) → ((x : A) → S x → T x) → MatchOption o P S → MatchOption o Q T
match_more None f h m = f m
match_more (Some x) f h m = h x m
