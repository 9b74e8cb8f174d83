-- Entries whose names are in byte order.
use Rattle.std.proofs.Common.{ℕ, zero, suc, ◌<◌, ◌≤◌, List, [], ◌∷◌, ◌++◌, Some, None, Result, Ok, Err, MatchResult, false, cond, bytes_eq, length, take, get_or, map, insert, remove, nat_cmp, Ordering, Less, Equal, Greater, is_eq, ◌≡◌, refl, ap, sym, subst, ◌∙◌, arith, ◌⊎◌, inl, inr, le_refl}
use Rattle.std.specs.Cmp.Lexicographic.{slice_cmp}
use Rattle.std.specs.Ordering.{match_ordering, ordering_index, ordering_reverse}
use Rattle.std.specs.List.{AllByRecursion}
use Rattle.std.specs.List.Sorted.{IsStrictlySortedBy, IsNonDecreasingBy, IsBinarySearchResult}
use Rattle.std.proofs.lemmas.Cmp.{nat_list_cmp_total}
use Rattle.std.proofs.lemmas.Map.Text.{is_eq-slice_cmp}
use Rattle.std.proofs.lemmas.Map.Keys.{Less-from_sorted}
use Rattle.std.proofs.lemmas.Slice.Eq.{bytes_eq-Decides}
use Rattle.std.proofs.lemmas.List.{length-map, get_or-map}
use Rattle.std.proofs.Math.Seq.{take-nil}
use Rattle.schema_core.specs.Entries.{entries_of, entry_names, find, with_entry, IsInOrder}

abbrev pub compare : List ℕ → List ℕ → Ordering
compare = slice_cmp nat_cmp

-- the other way round
pub reversed : (n k : List ℕ) (o : Ordering) → compare n k ≡ o → compare k n ≡ ordering_reverse o
reversed n k o e = nat_list_cmp_total.antisymm k n ∙ ap ordering_reverse e

differs : (n k : List ℕ) (o : Ordering) → compare n k ≡ o → is_eq (ordering_reverse o) ≡ false → bytes_eq k n ≡ false
differs n k o e f = sym (is_eq-slice_cmp k n) ∙ ap is_eq (reversed n k o e) ∙ f

equals : (n k : List ℕ) → compare n k ≡ Equal → n ≡ k
equals n k e = (bytes_eq-Decides n k).0 (sym (is_eq-slice_cmp n k) ∙ ap is_eq e)

-- the first names are below k, and the others above it
abbrev pub Splits : List ℕ → ℕ → List (List ℕ) → Type 0
Splits k zero ns = AllByRecursion (λ n. compare n k ≡ Greater) ns
Splits k (suc at) [] = ⊥
Splits k (suc at) (n ∷ ns) = (compare n k ≡ Less) × Splits k at ns

all_greater : (k : List ℕ) (ns : List (List ℕ)) → ((i : ℕ) → i < length ns → compare (get_or ns i []) k ≡ Greater) → AllByRecursion (λ n. compare n k ≡ Greater) ns
all_greater k [] h = tt
all_greater k (n ∷ ns) h = (h 0 (omega arith), all_greater k ns (λ i l. h (suc i) (omega arith)))

pub splits : (k : List ℕ) (at : ℕ) (ns : List (List ℕ)) → at ≤ length ns → ((i : ℕ) → i < at → compare (get_or ns i []) k ≡ Less) →
    ((i : ℕ) → at ≤ i → i < length ns → compare (get_or ns i []) k ≡ Greater) → Splits k at ns
splits k zero ns l before after = all_greater k ns (λ i h. after i (omega arith) h)
splits k (suc at) [] l before after = absurd (omega arith)
splits k (suc at) (n ∷ ns) l before after = (before 0 (omega arith), splits k at ns (omega arith) (λ i h. before (suc i) (omega arith)) (λ i g h. after (suc i) (omega arith) (omega arith)))

all_at : (P : List ℕ → Type 0) (ns : List (List ℕ)) (i : ℕ) → AllByRecursion P ns → i < length ns → P (get_or ns i [])
all_at P [] i h l = absurd (omega arith)
all_at P (n ∷ ns) zero h l = h.0
all_at P (n ∷ ns) (suc i) h l = all_at P ns i h.1 (omega arith)

module _ {S : Type 0} where
  pub entry_names-entries_of : (ns : List (List ℕ)) (ss : List S) → length ns ≡ length ss → entry_names (entries_of ns ss) ≡ ns
  entry_names-entries_of [] ss e = refl
  entry_names-entries_of (n ∷ ns) [] e = absurd (omega arith)
  entry_names-entries_of (n ∷ ns) (s ∷ ss) e = ap (λ xs. n ∷ xs) (entry_names-entries_of ns ss (omega arith))

  -- a name between others is not found
  absent-above : (k : List ℕ) (ns : List (List ℕ)) (ss : List S) → AllByRecursion (λ n. compare n k ≡ Greater) ns → find k (entries_of ns ss) ≡ None
  absent-above k [] ss h = refl
  absent-above k (n ∷ ns) [] h = refl
  absent-above k (n ∷ ns) (s ∷ ss) h = ap (λ b. cond b (Some s) (find k (entries_of ns ss))) (differs n k Greater h.0 refl) ∙ absent-above k ns ss h.1

  pub absent : (k : List ℕ) (at : ℕ) (ns : List (List ℕ)) (ss : List S) → Splits k at ns → find k (entries_of ns ss) ≡ None
  absent k zero ns ss h = absent-above k ns ss h
  absent k (suc at) [] ss h = absurd h
  absent k (suc at) (n ∷ ns) [] h = refl
  absent k (suc at) (n ∷ ns) (s ∷ ss) h = ap (λ b. cond b (Some s) (find k (entries_of ns ss))) (differs n k Less h.0 refl) ∙ absent k at ns ss h.1

  -- what is put in at that place is put in by the order
  pub with_entry-at : (k : List ℕ) (s : S) (at : ℕ) (ns : List (List ℕ)) (ss : List S) → length ns ≡ length ss → Splits k at ns →
      entries_of (insert ns at k) (insert ss at s) ≡ with_entry k s (entries_of ns ss)
  with_entry-at k s zero [] [] e h = refl
  with_entry-at k s zero [] (t ∷ ss) e h = absurd (omega arith)
  with_entry-at k s zero (n ∷ ns) [] e h = absurd (omega arith)
  with_entry-at k s zero (n ∷ ns) (t ∷ ss) e h =
      ap (λ o. match_ordering o ((n, t) ∷ with_entry k s (entries_of ns ss)) ((n, t) ∷ entries_of ns ss) ((k, s) ∷ (n, t) ∷ entries_of ns ss)) (sym h.0)
  with_entry-at k s (suc at) [] ss e h = absurd h
  with_entry-at k s (suc at) (n ∷ ns) [] e h = absurd (omega arith)
  with_entry-at k s (suc at) (n ∷ ns) (t ∷ ss) e h =
      ap (λ es. (n, t) ∷ es) (with_entry-at k s at ns ss (omega arith) h.1)
      ∙ ap (λ o. match_ordering o ((n, t) ∷ with_entry k s (entries_of ns ss)) ((n, t) ∷ entries_of ns ss) ((k, s) ∷ (n, t) ∷ entries_of ns ss)) (sym h.0)

  -- a name that stands there is found
  pub found : (k : List ℕ) (at : ℕ) (ns : List (List ℕ)) (ss : List S) (d : S) → IsInOrder ns → length ns ≡ length ss → at < length ns → get_or ns at [] ≡ k →
      find k (entries_of ns ss) ≡ Some (get_or ss at d)
  unfolding IsStrictlySortedBy
  found k at [] ss d o e l g = absurd (omega arith)
  found k at (n ∷ ns) [] d o e l g = absurd (omega arith)
  found k zero (n ∷ ns) (s ∷ ss) d o e l g = ap (λ b. cond b (Some s) (find k (entries_of ns ss))) ((bytes_eq-Decides k n).1 (sym g))
  found k (suc at) (n ∷ ns) (s ∷ ss) d o e l g =
      let less : compare n k ≡ Less = subst (λ x. compare n x ≡ Less) g (all_at (λ y. compare n y ≡ Less) ns at o.0 (omega arith)) in
      ap (λ b. cond b (Some s) (find k (entries_of ns ss))) (differs n k Less less refl) ∙ found k at ns ss d o.1 (omega arith) (omega arith) g

pub map-insert : {A B : Type 0} (f : A → B) (xs : List A) (i : ℕ) (x : A) → map f (insert xs i x) ≡ insert (map f xs) i (f x)
map-insert f xs zero x = refl
map-insert f [] (suc i) x = refl
map-insert f (y ∷ xs) (suc i) x = ap (λ ys. f y ∷ ys) (map-insert f xs i x)

pub removed : {A : Type 0} (xs : List A) (i : ℕ) (x : A) → i ≤ length xs → remove (insert xs i x) i ≡ xs
removed xs zero x l = refl
removed [] (suc i) x l = absurd (omega arith)
removed (y ∷ xs) (suc i) x l = ap (λ ys. y ∷ ys) (removed xs i x (omega arith))

-- the order is kept
all-insert : (P : List ℕ → Type 0) (ns : List (List ℕ)) (i : ℕ) (k : List ℕ) → AllByRecursion P ns → P k → AllByRecursion P (insert ns i k)
all-insert P ns zero k h p = (p, h)
all-insert P [] (suc i) k h p = (p, tt)
all-insert P (n ∷ ns) (suc i) k h p = (h.0, all-insert P ns i k h.1 p)

all_below : (k : List ℕ) (ns : List (List ℕ)) → AllByRecursion (λ n. compare n k ≡ Greater) ns → AllByRecursion (λ y. compare k y ≡ Less) ns
all_below k [] h = tt
all_below k (n ∷ ns) h = (reversed n k Greater h.0, all_below k ns h.1)

pub in_order-insert : (k : List ℕ) (at : ℕ) (ns : List (List ℕ)) → IsInOrder ns → Splits k at ns → IsInOrder (insert ns at k)
unfolding IsStrictlySortedBy
in_order-insert k zero ns o h = (all_below k ns h, o)
in_order-insert k (suc at) [] o h = absurd h
in_order-insert k (suc at) (n ∷ ns) o h = (all-insert (λ y. compare n y ≡ Less) ns at k o.0 h.0, in_order-insert k at ns o.1 h.1)

pub in_order-none : IsInOrder []
unfolding IsStrictlySortedBy
in_order-none = tt

-- ---- a search by halves

index_of : (a b k : List ℕ) → compare a b ≡ Less → ordering_index (compare a k) ≤ ordering_index (compare b k)
index_of a b k less = by (compare b k) refl
  where
    by : (o : Ordering) → compare b k ≡ o → ordering_index (compare a k) ≤ ordering_index o
    by Less e = let l : compare a k ≡ Less = nat_list_cmp_total.trans a b k less e in subst (λ x. ordering_index x ≤ 0) (sym l) (omega arith)
    by Equal e = let l : compare a k ≡ Less = subst (λ x. compare a x ≡ Less) (equals b k e) less in subst (λ x. ordering_index x ≤ 1) (sym l) (omega arith)
    by Greater e = at_most (compare a k)
      where
        at_most : (o : Ordering) → ordering_index o ≤ 2
        at_most Less = omega arith
        at_most Equal = omega arith
        at_most Greater = omega arith

le_cases : (i j : ℕ) → i ≤ j → (i ≡ j) ⊎ (i < j)
le_cases zero zero l = inl refl
le_cases zero (suc j) l = inr (omega arith)
le_cases (suc i) zero l = absurd (omega arith)
le_cases (suc i) (suc j) l = by (le_cases i j (omega arith))
  where
    by : (i ≡ j) ⊎ (i < j) → (suc i ≡ suc j) ⊎ (suc i < suc j)
    by (inl e) = inl (ap suc e)
    by (inr h) = inr (omega arith)

rises : (ns : List (List ℕ)) (k : List ℕ) → IsInOrder ns → IsNonDecreasingBy (λ y. ordering_index (compare y k)) ns
rises ns k o i j d le l = by (le_cases i j le)
  where
    by : (i ≡ j) ⊎ (i < j) → ordering_index (compare (get_or ns i d) k) ≤ ordering_index (compare (get_or ns j d) k)
    by (inl e) = subst (λ x. ordering_index (compare (get_or ns i d) k) ≤ ordering_index (compare (get_or ns x d) k)) e (le_refl _)
    by (inr h) = index_of (get_or ns i d) (get_or ns j d) k (Less-from_sorted compare ns i j d o h l)

module _ (ns : List (List ℕ)) (k : List ℕ) (o : IsInOrder ns) where
  pub search-found : (r : Result ℕ ℕ) → IsBinarySearchResult (λ y. compare y k) ns r → MatchResult r (λ at. get_or ns at [] ≡ k) (λ at. Unit {0})
  search-found (Ok at) h = equals (get_or ns at []) k (h [])
  search-found (Err at) h = tt

  pub search-before : (r : Result ℕ ℕ) → IsBinarySearchResult (λ y. compare y k) ns r → (i at : ℕ) → r ≡ Err at → i < at → compare (get_or ns i []) k ≡ Less
  search-before (Ok a) h i at e l = cc
  search-before (Err a) h i at e l = let same : a ≡ at = cc in (h (rises ns k o)).0 i [] (omega arith) (omega arith)

  pub search-after : (r : Result ℕ ℕ) → IsBinarySearchResult (λ y. compare y k) ns r → (i at : ℕ) → r ≡ Err at → at ≤ i → i < length ns → compare (get_or ns i []) k ≡ Greater
  search-after (Ok a) h i at e l m = cc
  search-after (Err a) h i at e l m = let same : a ≡ at = cc in (h (rises ns k o)).1 i [] (omega arith) m

-- ---- what a search finds, and what an insertion puts, where f sees what stands there
module _ {T S : Type 0} (f : T → S) (ns : List (List ℕ)) (ss : List T) (k : List ℕ) (at : ℕ) (o : IsInOrder ns) (e : length ns ≡ length ss) where
  same_length : length ns ≡ length (map f ss)
  same_length = e ∙ sym (length-map ss f)

  pub found_at : (r : T) → at < length ns → get_or ns at [] ≡ k → r ≡ get_or ss at r → Some (f r) ≡ find k (entries_of ns (map f ss))
  found_at r l g h = ap Some (ap f h ∙ sym (get_or-map f ss at r (f r) (omega arith))) ∙ sym (found k at ns (map f ss) (f r) o same_length l g)

  pub absent_at : Splits k at ns → find k (entries_of ns (map f ss)) ≡ None
  absent_at s = absent k at ns (map f ss) s

  pub inserted_at : (x : T) → Splits k at ns → entries_of (insert ns at k) (map f (insert ss at x)) ≡ with_entry k (f x) (entries_of ns (map f ss))
  inserted_at x s = ap (entries_of (insert ns at k)) (map-insert f ss at x) ∙ with_entry-at k (f x) at ns (map f ss) same_length s

  pub still_present_at : at < length ns → get_or ns at [] ≡ k → find k (entries_of ns (map f ss)) ≡ None → ⊥
  still_present_at l g h = by ss refl
    where
      by : (ts : List T) → ss ≡ ts → ⊥
      by [] s = absurd (omega (arith, ap length s))
      by (t ∷ ts) s = let p = found k at ns (map f ss) (f t) o same_length l g in cc

pub length-insert : {A : Type 0} (xs : List A) (i : ℕ) (x : A) → length (insert xs i x) ≡ suc (length xs)
length-insert xs zero x = refl
length-insert [] (suc i) x = refl
length-insert (y ∷ xs) (suc i) x = ap suc (length-insert xs i x)

pub all-append : {A : Type 0} (P : A → Type 0) (xs ys : List A) → AllByRecursion P xs → AllByRecursion P ys → AllByRecursion P (xs ++ ys)
all-append P [] ys h k = k
all-append P (x ∷ xs) ys h k = (h.0, all-append P xs ys h.1 k)

-- ---- entries by their places
module _ {S : Type 0} where
  pub length-entries : (ns : List (List ℕ)) (ss : List S) → length ns ≡ length ss → length (entries_of ns ss) ≡ length ns
  length-entries [] ss e = refl
  length-entries (n ∷ ns) [] e = absurd (omega arith)
  length-entries (n ∷ ns) (s ∷ ss) e = ap suc (length-entries ns ss (omega arith))

  pub length-viewed : {T : Type 0} (v : T → S) (ns : List (List ℕ)) (ss : List T) → length ns ≡ length ss → length (entries_of ns (map v ss)) ≡ length ns
  length-viewed v ns ss e = length-entries ns (map v ss) (e ∙ sym (length-map ss v))

  pub entry_at : (ns : List (List ℕ)) (ss : List S) (i : ℕ) (n : List ℕ) (s : S) → length ns ≡ length ss → i < length ns → get_or (entries_of ns ss) i (n, s) ≡ (get_or ns i n, get_or ss i s)
  entry_at [] ss i n s e l = absurd (omega arith)
  entry_at (m ∷ ns) [] i n s e l = absurd (omega arith)
  entry_at (m ∷ ns) (t ∷ ss) zero n s e l = refl
  entry_at (m ∷ ns) (t ∷ ss) (suc i) n s e l = entry_at ns ss i n s (omega arith) (omega arith)

pub take_all_past : {A : Type 0} (xs : List A) (n : ℕ) → length xs ≤ n → take n xs ≡ xs
take_all_past [] n l = take-nil n
take_all_past (x ∷ xs) zero l = absurd (omega arith)
take_all_past (x ∷ xs) (suc n) l = ap (λ ys. x ∷ ys) (take_all_past xs n (omega arith))
