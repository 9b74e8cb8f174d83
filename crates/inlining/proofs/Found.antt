-- What is found, and how it grows.
use Rattle.std.proofs.Common.{◌≡◌, ◌<◌, ◌≤◌, ◌⊎◌, inl, inr, ℕ, zero, suc, ◌+◌, List, [], ◌∷◌, ◌++◌, length, take, get_or, set, Bool, true, false, IsTrue, refl, ap, sym, ◌∙◌, subst, arith}
use Rattle.std.proofs.lemmas.Bool.{cases_eq, false≢true}
use Rattle.std.proofs.lemmas.List.{take_more, get_or-set_same, get_or-set_other, get_or_append_left, length_push}
use Rattle.inlining.specs.Found.{AreFound, IsGrown}
use Rattle.inlining.specs.Inlining.{IsAmong, AreOnce}
use Rattle.inlining.specs.Marks.{mark}
use Rattle.inlining.proofs.Among.{among_at, among-left, among-right, among_cases}
use Rattle.inlining.proofs.Once.{once_append}

-- ---- marks

pub marked_below : (ms : List Bool) (n : ℕ) → IsTrue (mark ms n) → n < length ms
marked_below [] n m = absurd (false≢true m)
marked_below (b ∷ ms) zero m = omega arith
marked_below (b ∷ ms) (suc n) m = omega (arith, marked_below ms n m)

count : List Bool → ℕ
count [] = 0
count (true ∷ ms) = suc (count ms)
count (false ∷ ms) = count ms

count_unset : (ms : List Bool) (d : ℕ) → IsTrue (mark ms d) → count ms ≡ suc (count (set ms d false))
unfolding count
count_unset [] d m = absurd (false≢true m)
count_unset (true ∷ ms) zero m = refl
count_unset (false ∷ ms) zero m = absurd (false≢true m)
count_unset (true ∷ ms) (suc d) m = ap suc (count_unset ms d m)
count_unset (false ∷ ms) (suc d) m = count_unset ms d m

count_most : (ms : List Bool) → count ms ≤ length ms
unfolding count
count_most [] = omega arith
count_most (true ∷ ms) = omega (arith, count_most ms)
count_most (false ∷ ms) = omega (arith, count_most ms)

many_once : (ms : List Bool) (ds : List ℕ) → AreOnce ds → ((d : ℕ) → IsAmong d ds → IsTrue (mark ms d)) → length ds ≤ count ms
many_once ms [] o all = omega arith
many_once ms (d ∷ ds) o all =
    let rest = many_once (set ms d false) ds o.1 (λ e i. get_or-set_other ms d e false false (λ same. o.0 (subst (λ k. IsAmong k ds) same i)) ∙ all e (inr i)) in
    omega (arith, rest, count_unset ms d (all d (inl refl)))

-- no more are found than there are marks
pub found_most : (marks : List Bool) (found : List ℕ) → AreFound marks found → length found ≤ length marks
found_most marks found is = omega (arith, many_once marks found is.once (λ d i. (is.marked d).1 i), count_most marks)

-- what is found has a mark, and so a number that is below how many marks there are
pub found_below : (marks : List Bool) (found : List ℕ) (n : ℕ) → AreFound marks found → IsAmong n found → n < length marks
found_below marks found n is i = marked_below marks n ((is.marked n).1 i)

pub read_below : (marks : List Bool) (found read : List ℕ) (place count : ℕ) → AreFound marks found → length marks ≡ count → read ≡ found → place < length found → get_or read place 0 < count
read_below marks found read place count is many same h =
    let below : get_or found place 0 < length marks = found_below marks found (get_or found place 0) is (among_at found place 0 h) in
    rw same (omega arith)

-- ---- one more

marked_to : (marks : List Bool) (found : List ℕ) (n d : ℕ) → (IsTrue (mark marks d) → IsAmong d found) → (d ≡ n) ⊎ (d ≡ n → ⊥) → IsTrue (mark (set marks n true) d) → IsAmong d (found ++ n ∷ [])
marked_to marks found n d all (inl same) m = among-right d found (n ∷ []) (inl same)
marked_to marks found n d all (inr other) m = among-left d found (n ∷ []) (all (sym (get_or-set_other marks n d true false other) ∙ m))

marked_from : (marks : List Bool) (found : List ℕ) (n d : ℕ) → n < length marks → (IsAmong d found → IsTrue (mark marks d)) → (d ≡ n) ⊎ (d ≡ n → ⊥) → IsAmong d (found ++ n ∷ []) → IsTrue (mark (set marks n true) d)
marked_from marks found n d h all (inl same) i = subst (λ k. IsTrue (mark (set marks n true) k)) (sym same) (get_or-set_same marks n true false h)
marked_from marks found n d h all (inr other) i = by (among_cases d found (n ∷ []) i)
  where
    by : IsAmong d found ⊎ IsAmong d (n ∷ []) → IsTrue (mark (set marks n true) d)
    by (inl j) = get_or-set_other marks n d true false other ∙ all j
    by (inr (inl same)) = absurd (other same)
    by (inr (inr none)) = absurd none

-- what had no mark is found, and has one
pub found_push : (marks : List Bool) (found : List ℕ) (n : ℕ) → AreFound marks found → n < length marks → mark marks n ≡ false → AreFound (set marks n true) (found ++ n ∷ [])
found_push marks found n is h none = record {
  once = once_append found (n ∷ []) is.once (λ i. i, tt) (λ d i j. apart d i j);
  marked = λ d. (marked_to marks found n d (is.marked d).0 (cases_eq d n), marked_from marks found n d h (is.marked d).1 (cases_eq d n));
}
  where
    apart : (d : ℕ) → IsAmong d found → IsAmong d (n ∷ []) → ⊥
    apart d i (inl same) = false≢true (sym none ∙ subst (λ k. IsTrue (mark marks k)) same ((is.marked d).1 i))
    apart d i (inr j) = j

among_either : (before others : List ℕ) (n : ℕ) → IsAmong n before ⊎ IsAmong n others → IsAmong n (before ++ others)
among_either before others n (inl i) = among-left n before others i
among_either before others n (inr i) = among-right n before others i

pub grown_push : (found : List ℕ) (n : ℕ) → IsGrown found (n ∷ []) (found ++ n ∷ [])
grown_push found n = record {
  longer = omega (arith, length_push found n);
  kept = λ i h. get_or_append_left found (n ∷ []) 0 i h;
  each = λ d. (among_cases d found (n ∷ []), among_either found (n ∷ []) d);
}

-- ---- more of them

grown_on : (before xs mid ys after : List ℕ) → IsGrown before xs mid → IsGrown mid ys after → IsGrown before (xs ++ ys) after
grown_on before xs mid ys after s t = record {
  longer = omega (arith, s.longer, t.longer);
  kept = λ i h. t.kept i (omega (arith, h, s.longer)) ∙ s.kept i h;
  each = λ n. (λ i. to n ((t.each n).0 i), λ i. (t.each n).1 (from n i));
}
  where
    through : (n : ℕ) → IsAmong n before ⊎ IsAmong n xs → IsAmong n before ⊎ IsAmong n (xs ++ ys)
    through n (inl i) = inl i
    through n (inr i) = inr (among-left n xs ys i)

    to : (n : ℕ) → IsAmong n mid ⊎ IsAmong n ys → IsAmong n before ⊎ IsAmong n (xs ++ ys)
    to n (inl i) = through n ((s.each n).0 i)
    to n (inr i) = inr (among-right n xs ys i)

    later : (n : ℕ) → IsAmong n xs ⊎ IsAmong n ys → IsAmong n mid ⊎ IsAmong n ys
    later n (inl i) = inl ((s.each n).1 (inr i))
    later n (inr i) = inr i

    from : (n : ℕ) → IsAmong n before ⊎ IsAmong n (xs ++ ys) → IsAmong n mid ⊎ IsAmong n ys
    from n (inl i) = inl ((s.each n).1 (inl i))
    from n (inr i) = later n (among_cases n xs ys i)

pub grown_more : (before ns mid after : List ℕ) (i : ℕ) → i < length ns → IsGrown before (take i ns) mid → IsGrown mid (get_or ns i 0 ∷ []) after → IsGrown before (take (i + 1) ns) after
grown_more before ns mid after i h s t = subst (λ ms. IsGrown before ms after) (sym (take_more ns i 0 h)) (grown_on before (take i ns) mid (get_or ns i 0 ∷ []) after s t)
