-- From where edges lead to a number with something in the way, and to which.
use Rattle.std.proofs.Common.{◌≡◌, ◌<◌, ◌≤◌, ◌⊎◌, inl, inr, ℕ, zero, suc, ◌+◌, List, [], ◌∷◌, ◌++◌, length, take, map, get_or, set, false, Option, Some, None, is_some, IsTrue, refl, ap, subst, sym, ◌∙◌, arith}
use Rattle.std.proofs.lemmas.Bool.{cases_eq, false≢true}
use Rattle.std.proofs.lemmas.List.{take_more, length-map, map-set, get_or-set_same, get_or-set_other}
use Rattle.std.proofs.lemmas.Option.{same_Some}
use Rattle.inlining.proofs.Found.{found_push, found_below, found_most}
use Rattle.inlining.proofs.Laws.{among-left, among-right}
use Rattle.inlining.specs.Found.{AreFound, IsGrown}
use Rattle.inlining.specs.Inlining.{targets_of, IsAmong}
use Rattle.inlining.specs.Marks.{mark}
use Rattle.plainness.specs.Edges.{AreTurned, IsHindered, LeadsTo, leads_here, leads_on, AreLed, AreGiven, AreOrigins}
use Rattle.plainness.specs.declared.unplain.Obstacle.{Obstacle}
use Rattle.plainness.proofs.Numbered.{below-next, targets-within}

pub hindered-below : (os : List (Option Obstacle)) (n : ℕ) → IsHindered os n → n < length os
hindered-below [] n h = absurd (false≢true h)
hindered-below (o ∷ os) zero h = omega arith
hindered-below (o ∷ os) (suc n) h = let l : n < length os = hindered-below os n h in omega (arith, l)

-- ---- which numbers have an origin

mark-some : (os : List (Option ℕ)) (n : ℕ) → mark (map is_some os) n ≡ is_some (get_or os n None)
mark-some [] n = refl
mark-some (o ∷ os) zero = refl
mark-some (o ∷ os) (suc n) = mark-some os n

pub found-none : (os : List (Option ℕ)) → ((n : ℕ) → get_or os n None ≡ None) → AreFound (map is_some os) []
found-none os none = record {
  once = tt;
  marked = λ n. (λ m. false≢true (sym (mark-some os n ∙ ap is_some (none n)) ∙ m), λ i. absurd i);
}

-- what is found has an origin
pub found-some : (os : List (Option ℕ)) (ns : List ℕ) (n : ℕ) → AreFound (map is_some os) ns → IsAmong n ns → IsTrue (is_some (get_or os n None))
found-some os ns n found i = sym (mark-some os n) ∙ (found.marked n).1 i

pub some-found : (os : List (Option ℕ)) (ns : List ℕ) (n : ℕ) → AreFound (map is_some os) ns → IsTrue (is_some (get_or os n None)) → IsAmong n ns
some-found os ns n found s = (found.marked n).0 (mark-some os n ∙ s)

pub found-there : (os : List (Option ℕ)) (ns : List ℕ) (n : ℕ) → AreFound (map is_some os) ns → IsAmong n ns → n < length os
found-there os ns n found i = subst (λ k. n < k) (length-map os is_some) (found_below (map is_some os) ns n found i)

-- no more are found than there are numbers
pub found-many : (os : List (Option ℕ)) (ns : List ℕ) → AreFound (map is_some os) ns → length ns ≤ length os
found-many os ns found = subst (λ k. length ns ≤ k) (length-map os is_some) (found_most (map is_some os) ns found)

-- ---- one number more

pub found-more : (os : List (Option ℕ)) (ns : List ℕ) (n o : ℕ) → AreFound (map is_some os) ns → n < length os → is_some (get_or os n None) ≡ false → AreFound (map is_some (set os n (Some o))) (ns ++ n ∷ [])
found-more os ns n o found l none = subst (λ ms. AreFound ms (ns ++ n ∷ [])) (sym (map-set is_some os n (Some o))) (found_push (map is_some os) ns n found (subst (λ k. n < k) (sym (length-map os is_some)) l) (mark-some os n ∙ none))

pub given-more : (os : List (Option ℕ)) (n o : ℕ) → n < length os → AreGiven os (n ∷ []) o (set os n (Some o))
given-more os n o l = record { each = λ k m e. by k m e (cases_eq k n) }
  where
    by : (k m : ℕ) → get_or (set os n (Some o)) k None ≡ Some m → (k ≡ n) ⊎ ¬ (k ≡ n) → (get_or os k None ≡ Some m) ⊎ (IsAmong k (n ∷ []) × (m ≡ o))
    by k m e (inl same) = inr (inl same, same_Some m o (sym e ∙ ap (λ j. get_or (set os n (Some o)) j None) same ∙ get_or-set_same os n (Some o) None l))
    by k m e (inr other) = inl (sym (get_or-set_other os n k (Some o) None other) ∙ e)

pub grown-same : (ns : List ℕ) (n : ℕ) → IsAmong n ns → IsGrown ns (n ∷ []) ns
grown-same ns n i = record {
  longer = omega arith;
  kept = λ j l. refl;
  each = λ k. (λ j. inl j, by k);
}
  where
    by : (k : ℕ) → IsAmong k ns ⊎ IsAmong k (n ∷ []) → IsAmong k ns
    by k (inl j) = j
    by k (inr (inl e)) = subst (λ m. IsAmong m ns) (sym e) i
    by k (inr (inr j)) = absurd j

pub given-on : (before : List (Option ℕ)) (ns : List ℕ) (o : ℕ) (mid after : List (Option ℕ)) (i : ℕ) → i < length ns → AreGiven before (take i ns) o mid → AreGiven mid (get_or ns i 0 ∷ []) o after → AreGiven before (take (i + 1) ns) o after
given-on before ns o mid after i l s t = subst (λ ms. AreGiven before ms o after) (sym (take_more ns i 0 l)) (record { each = λ k m e. by k m (t.each k m e) })
  where
    old : (k m : ℕ) → (get_or before k None ≡ Some m) ⊎ (IsAmong k (take i ns) × (m ≡ o)) → (get_or before k None ≡ Some m) ⊎ (IsAmong k (take i ns ++ get_or ns i 0 ∷ []) × (m ≡ o))
    old k m (inl e) = inl e
    old k m (inr h) = inr (among-left k (take i ns) (get_or ns i 0 ∷ []) h.0, h.1)

    by : (k m : ℕ) → (get_or mid k None ≡ Some m) ⊎ (IsAmong k (get_or ns i 0 ∷ []) × (m ≡ o)) → (get_or before k None ≡ Some m) ⊎ (IsAmong k (take i ns ++ get_or ns i 0 ∷ []) × (m ≡ o))
    by k m (inl e) = old k m (s.each k m e)
    by k m (inr h) = inr (among-right k (take i ns) (get_or ns i 0 ∷ []) h.0, h.1)

-- ---- where something is in the way

-- Of the numbers below one, those where something is in the way are found, each as its own origin.
pub record AreOwn (obstacles : List (Option Obstacle)) (below : ℕ) (origins : List (Option ℕ)) (numbers : List ℕ) : Type 0 where
  pub own : (n m : ℕ) → get_or origins n None ≡ Some m → (m ≡ n) × IsHindered obstacles n
  pub all : (n : ℕ) → n < below → IsHindered obstacles n → IsAmong n numbers

pub own-none : (obstacles : List (Option Obstacle)) (os : List (Option ℕ)) (ns : List ℕ) → ((n : ℕ) → get_or os n None ≡ None) → AreOwn obstacles 0 os ns
own-none obstacles os ns none = record {
  own = λ n m e. absurd (false≢true (ap is_some (sym (none n) ∙ e)));
  all = λ n l h. absurd (omega (arith, l));
}

pub own-more : (obstacles : List (Option Obstacle)) (k : ℕ) (os after : List (Option ℕ)) (ns more : List ℕ) → IsHindered obstacles k → AreOwn obstacles k os ns → AreGiven os (k ∷ []) k after → IsGrown ns (k ∷ []) more → AreOwn obstacles (k + 1) after more
own-more obstacles k os after ns more h own given grown = record {
  own = λ n m e. by n m (given.each n m e);
  all = λ n l p. on n (below-next n k l) p;
}
  where
    by : (n m : ℕ) → (get_or os n None ≡ Some m) ⊎ (IsAmong n (k ∷ []) × (m ≡ k)) → (m ≡ n) × IsHindered obstacles n
    by n m (inl e) = own.own n m e
    by n m (inr (inl e, f)) = (f ∙ sym e, subst (IsHindered obstacles) (sym e) h)
    by n m (inr (inr i, f)) = absurd i

    on : (n : ℕ) → (n < k) ⊎ (n ≡ k) → IsHindered obstacles n → IsAmong n more
    on n (inl l) p = (grown.each n).1 (inl (own.all n l p))
    on n (inr e) p = (grown.each n).1 (inr (inl e))

pub own-same : (obstacles : List (Option Obstacle)) (k : ℕ) (os : List (Option ℕ)) (ns : List ℕ) → ¬ (IsHindered obstacles k) → AreOwn obstacles k os ns → AreOwn obstacles (k + 1) os ns
own-same obstacles k os ns out own = record {
  own = own.own;
  all = λ n l p. on n (below-next n k l) p;
}
  where
    on : (n : ℕ) → (n < k) ⊎ (n ≡ k) → IsHindered obstacles n → IsAmong n ns
    on n (inl l) p = own.all n l p
    on n (inr e) p = absurd (out (subst (IsHindered obstacles) e p))

-- ---- the walk

-- The walk went over the numbers before the place: what has an edge to one of them is found.
pub record IsWalked (edges turned : List (List ℕ)) (obstacles : List (Option Obstacle)) (place : ℕ) (origins : List (Option ℕ)) (numbers : List ℕ) : Type 0 where
  pub led : AreLed edges obstacles origins
  pub firsts : (n : ℕ) → IsHindered obstacles n → IsAmong n numbers
  pub before : (i m : ℕ) → i < place → i < length numbers → IsAmong m (targets_of turned (get_or numbers i 0)) → IsAmong m numbers

pub walked-first : (edges turned : List (List ℕ)) (obstacles : List (Option Obstacle)) (os : List (Option ℕ)) (ns : List ℕ) → ((n m : ℕ) → get_or os n None ≡ Some m → (m ≡ n) × IsHindered obstacles n) → ((n : ℕ) → IsHindered obstacles n → IsAmong n ns) → IsWalked edges turned obstacles 0 os ns
walked-first edges turned obstacles os ns own all = record {
  led = record { each = λ n m e. let h = own n m e in (subst (LeadsTo edges n) (sym h.0) (leads_here n), subst (IsHindered obstacles) (sym h.0) h.1) };
  firsts = all;
  before = λ i m l w j. absurd (omega (arith, l));
}

module _ (edges turned : List (List ℕ)) (obstacles : List (Option Obstacle)) (turn : AreTurned edges turned) where
  pub turned-there : (n m : ℕ) → IsAmong m (targets_of turned n) → m < length edges
  turned-there n m i = targets-within edges m n ((turn.each n m).0 i)

  pub walked-on : (place : ℕ) (os after : List (Option ℕ)) (ns more : List ℕ) (o : ℕ) → IsWalked edges turned obstacles place os ns → place < length ns → get_or os (get_or ns place 0) None ≡ Some o →
      AreGiven os (targets_of turned (get_or ns place 0)) o after → IsGrown ns (targets_of turned (get_or ns place 0)) more → IsWalked edges turned obstacles (place + 1) after more
  walked-on place os after ns more o w at own given grown = record {
    led = record { each = λ n m e. by n m (given.each n m e) };
    firsts = λ n h. (grown.each n).1 (inl (w.firsts n h));
    before = λ i m l k j. on i m (below-next i place l) j;
  }
    where
      from : LeadsTo edges (get_or ns place 0) o × IsHindered obstacles o
      from = w.led.each (get_or ns place 0) o own

      by : (n m : ℕ) → (get_or os n None ≡ Some m) ⊎ (IsAmong n (targets_of turned (get_or ns place 0)) × (m ≡ o)) → LeadsTo edges n m × IsHindered obstacles m
      by n m (inl e) = w.led.each n m e
      by n m (inr h) = (subst (LeadsTo edges n) (sym h.1) (leads_on n (get_or ns place 0) o ((turn.each (get_or ns place 0) n).0 h.0) from.0), subst (IsHindered obstacles) (sym h.1) from.1)

      on : (i m : ℕ) → (i < place) ⊎ (i ≡ place) → IsAmong m (targets_of turned (get_or more i 0)) → IsAmong m more
      on i m (inl l) j = (grown.each m).1 (inl (w.before i m l (omega (arith, l, at)) (subst (λ k. IsAmong m (targets_of turned k)) (grown.kept i (omega (arith, l, at))) j)))
      on i m (inr e) j = (grown.each m).1 (inr (subst (λ k. IsAmong m (targets_of turned k)) (ap (λ k. get_or more k 0) e ∙ grown.kept place at) j))

  -- where what is among them has a fact if it stands at a place
  among-place : (P : ℕ → Type 0) (ns : List ℕ) → ((i : ℕ) → i < length ns → P (get_or ns i 0)) → (n : ℕ) → IsAmong n ns → P n
  among-place P [] all n i = absurd i
  among-place P (k ∷ ns) all n (inl e) = subst P (sym e) (all 0 (omega arith))
  among-place P (k ∷ ns) all n (inr j) = among-place P ns (λ i h. all (suc i) (omega (arith, h))) n j

  module _ (place : ℕ) (os : List (Option ℕ)) (ns : List ℕ) (walked : IsWalked edges turned obstacles place os ns) (whole : length ns ≤ place) where
    all-found : (n m : ℕ) → LeadsTo edges n m → IsHindered obstacles m → IsAmong n ns
    all-found n m (leads_here k) h = walked.firsts k h
    all-found n m (leads_on i k j a l) h =
        among-place (λ p. IsAmong i (targets_of turned p) → IsAmong i ns) ns (λ p q. walked.before p i (omega (arith, q, whole)) q) k (all-found k j l h) ((turn.each k i).1 a)

    pub walked-all : length os ≡ length edges → AreFound (map is_some os) ns → AreOrigins edges obstacles os
    walked-all many found = record {
      many = many;
      led = walked.led;
      none = λ n m e l h. false≢true (sym (ap is_some e) ∙ found-some os ns n found (all-found n m l h));
    }
