-- A walk over all that is shown: what it found so far, and which of it are components.
use Rattle.std.proofs.Common.{◌≡◌, ◌<◌, ◌≤◌, ◌↔◌, ◌⊎◌, inl, inr, ℕ, suc, ◌+◌, List, [], ◌∷◌, length, get_or, Bool, IsTrue, sym, ◌∙◌, subst, arith}
use Rattle.std.proofs.lemmas.Bool.{cases_lt}
use Rattle.inlining.specs.Found.{AreFound, IsGrown}
use Rattle.inlining.specs.Inlining.{targets_of, IsAmong}
use Rattle.inlining.specs.Marks.{mark}
use Rattle.inlining.specs.Shown.{IsShown, shown_first, shown_inline, shown_referred, IsComponent, first_component, referred_component}
use Rattle.inlining.proofs.Among.{among_at}

-- The walk went over what was found before the place.
pub record IsWalked (first : List ℕ) (targets references : List (List ℕ)) (place : ℕ) (found parts : List ℕ) : Type 0 where
  pub within : place ≤ length found
  pub firsts : (n : ℕ) → IsAmong n first → IsAmong n found × IsAmong n parts
  pub inlined : (i m : ℕ) → i < place → IsAmong m (targets_of targets (get_or found i 0)) → IsAmong m found
  pub referred : (i m : ℕ) → i < place → IsAmong m (targets_of references (get_or found i 0)) → IsAmong m found × IsAmong m parts
  pub shown : (n : ℕ) → IsAmong n found → IsShown first targets references n
  pub components : (n : ℕ) → IsAmong n parts → IsComponent first targets references n

only_new : (others : List ℕ) (n : ℕ) → IsAmong n [] ⊎ IsAmong n others → IsAmong n others
only_new others n (inl i) = absurd i
only_new others n (inr i) = i

pub walked_first : (first : List ℕ) (targets references : List (List ℕ)) (found parts : List ℕ) → IsGrown [] first found → IsGrown [] first parts → IsWalked first targets references 0 found parts
walked_first first targets references found parts f p = record {
  within = omega arith;
  firsts = λ n i. ((f.each n).1 (inr i), (p.each n).1 (inr i));
  inlined = λ i m h. absurd (omega arith);
  referred = λ i m h. absurd (omega arith);
  shown = λ n i. shown_first n (only_new first n ((f.each n).0 i));
  components = λ n i. first_component n (only_new first n ((p.each n).0 i));
}

pub walked_on : (first : List ℕ) (targets references : List (List ℕ)) (place : ℕ) (found parts mid found_after parts_after : List ℕ) → IsWalked first targets references place found parts → place < length found →
    IsGrown found (targets_of targets (get_or found place 0)) mid → IsGrown mid (targets_of references (get_or found place 0)) found_after → IsGrown parts (targets_of references (get_or found place 0)) parts_after →
    IsWalked first targets references (place + 1) found_after parts_after
walked_on first targets references place found parts mid found_after parts_after w h s t p = record {
  within = omega (arith, s.longer, t.longer);
  firsts = λ n i. (stays n (w.firsts n i).0, (p.each n).1 (inl (w.firsts n i).1));
  inlined = λ i m l j. inlined_by m i (cases_lt i place) l (subst (λ k. IsAmong m (targets_of targets k)) (same i (omega arith)) j);
  referred = λ i m l j. referred_by m i (cases_lt i place) l (subst (λ k. IsAmong m (targets_of references k)) (same i (omega arith)) j);
  shown = λ n i. shown_by n ((t.each n).0 i);
  components = λ n i. component_by n ((p.each n).0 i);
}
  where
    stays : (n : ℕ) → IsAmong n found → IsAmong n found_after
    stays n i = (t.each n).1 (inl ((s.each n).1 (inl i)))

    same : (i : ℕ) → i < length found → get_or found_after i 0 ≡ get_or found i 0
    same i l = t.kept i (omega (arith, s.longer)) ∙ s.kept i l

    here_shown : IsShown first targets references (get_or found place 0)
    here_shown = w.shown (get_or found place 0) (among_at found place 0 h)

    inlined_by : (m i : ℕ) → (i < place) ⊎ (place ≤ i) → i < place + 1 → IsAmong m (targets_of targets (get_or found i 0)) → IsAmong m found_after
    inlined_by m i (inl l) g j = stays m (w.inlined i m l j)
    inlined_by m i (inr l) g j = let e : i ≡ place = omega arith in (t.each m).1 (inl ((s.each m).1 (inr (subst (λ k. IsAmong m (targets_of targets (get_or found k 0))) e j))))

    referred_by : (m i : ℕ) → (i < place) ⊎ (place ≤ i) → i < place + 1 → IsAmong m (targets_of references (get_or found i 0)) → IsAmong m found_after × IsAmong m parts_after
    referred_by m i (inl l) g j = (stays m (w.referred i m l j).0, (p.each m).1 (inl (w.referred i m l j).1))
    referred_by m i (inr l) g j =
        let e : i ≡ place = omega arith in
        let k : IsAmong m (targets_of references (get_or found place 0)) = subst (λ k. IsAmong m (targets_of references (get_or found k 0))) e j in
        ((t.each m).1 (inr k), (p.each m).1 (inr k))

    shown_before : (n : ℕ) → IsAmong n found ⊎ IsAmong n (targets_of targets (get_or found place 0)) → IsShown first targets references n
    shown_before n (inl i) = w.shown n i
    shown_before n (inr i) = shown_inline (get_or found place 0) n here_shown i

    shown_by : (n : ℕ) → IsAmong n mid ⊎ IsAmong n (targets_of references (get_or found place 0)) → IsShown first targets references n
    shown_by n (inl i) = shown_before n ((s.each n).0 i)
    shown_by n (inr i) = shown_referred (get_or found place 0) n here_shown i

    component_by : (n : ℕ) → IsAmong n parts ⊎ IsAmong n (targets_of references (get_or found place 0)) → IsComponent first targets references n
    component_by n (inl i) = w.components n i
    component_by n (inr i) = referred_component (get_or found place 0) n here_shown i

-- ---- at the end

-- where what is among them has a fact if it stands at a place
among_place : (P : ℕ → Type 0) (ds : List ℕ) → ((i : ℕ) → i < length ds → P (get_or ds i 0)) → (n : ℕ) → IsAmong n ds → P n
among_place P [] all n i = absurd i
among_place P (d ∷ ds) all n (inl e) = subst P (sym e) (all 0 (omega arith))
among_place P (d ∷ ds) all n (inr j) = among_place P ds (λ i h. all (suc i) (omega arith)) n j

-- what is shown is found
pub shown_found : (first : List ℕ) (targets references : List (List ℕ)) (place : ℕ) (found parts : List ℕ) → IsWalked first targets references place found parts → length found ≤ place → (n : ℕ) → IsShown first targets references n → IsAmong n found
shown_found first targets references place found parts w h k (shown_first n i) = (w.firsts n i).0
shown_found first targets references place found parts w h k (shown_inline n m s j) =
    among_place (λ e. IsAmong m (targets_of targets e) → IsAmong m found) found (λ i l. w.inlined i m (omega arith)) n (shown_found first targets references place found parts w h n s) j
shown_found first targets references place found parts w h k (shown_referred n m s j) =
    among_place (λ e. IsAmong m (targets_of references e) → IsAmong m found) found (λ i l r. (w.referred i m (omega arith) r).0) n (shown_found first targets references place found parts w h n s) j

pub marked_shown : (first : List ℕ) (targets references : List (List ℕ)) (place : ℕ) (marks : List Bool) (found parts : List ℕ) → IsWalked first targets references place found parts → AreFound marks found → length found ≤ place →
    (n : ℕ) → IsTrue (mark marks n) ↔ IsShown first targets references n
marked_shown first targets references place marks found parts w is h n = (λ m. w.shown n ((is.marked n).0 m), λ s. (is.marked n).1 (shown_found first targets references place found parts w h n s))

component_found : (first : List ℕ) (targets references : List (List ℕ)) (place : ℕ) (found parts : List ℕ) → IsWalked first targets references place found parts → length found ≤ place → (n : ℕ) → IsComponent first targets references n → IsAmong n parts
component_found first targets references place found parts w h k (first_component n i) = (w.firsts n i).1
component_found first targets references place found parts w h k (referred_component n m s j) =
    among_place (λ e. IsAmong m (targets_of references e) → IsAmong m parts) found (λ i l r. (w.referred i m (omega arith) r).1) n (shown_found first targets references place found parts w h n s) j

pub all_components : (first : List ℕ) (targets references : List (List ℕ)) (place : ℕ) (found parts : List ℕ) → IsWalked first targets references place found parts → length found ≤ place → (n : ℕ) → IsAmong n parts ↔ IsComponent first targets references n
all_components first targets references place found parts w h n = (w.components n, component_found first targets references place found parts w h n)
