-- Entries of instances by number: each of the numbers has one, which is new.
use Rattle.std.proofs.Common.{ℕ, zero, suc, ◌+◌, ◌<◌, List, [], ◌∷◌, ◌++◌, Option, Some, None, IsTrue, Bool, true, false, cond, Bor, bytes_eq, length, map, take, drop, get_or, nat_cmp, Ordering, Less, Equal, Greater, ◌≡◌, refl, ap, sym, subst, ◌∙◌, ◌⊎◌, inl, inr, ◌↔◌, arith}
use Rattle.std.specs.BTreeMap.{insert_entry}
use Rattle.std.specs.Cmp.Lexicographic.{slice_cmp}
use Rattle.std.specs.List.{AllByRecursion}
use Rattle.std.specs.Ordering.{match_ordering, ordering_reverse}
use Rattle.std.proofs.lemmas.Bool.{false≢true}
use Rattle.std.proofs.lemmas.Cmp.{nat_list_cmp_total}
use Rattle.std.proofs.lemmas.List.{append-nil, append_assoc, get_or-map, drop_more}
use Rattle.schema_trees.specs.declared.tree.RefLeaf.{RefLeaf}
use Rattle.schema_trees.specs.Schema.{SchemaOf}
use Rattle.schema_core.specs.Document.{Entry}
use Rattle.schema_core.specs.Entries.{find, with_entry}
use Rattle.open_types.specs.Open.{Open, unit}
use Rattle.shapes.specs.Declarations.{DeclarationOf}
use Rattle.shapes.specs.InstanceNames.{instance_name}
use Rattle.inlining.specs.Inlining.{IsAmong, AreOnce}
use Rattle.inlining.proofs.Laws.{among_at, among_cases}
use Rattle.instances.specs.Lists.{IsOneOf, instance_at, AreDifferent, AreInstances}
use Rattle.instances.specs.Names.{NamesDiffer, instance_names}
use Rattle.instances.proofs.Laws.{at-one}
use Rattle.closing.specs.Made.{entries_from, entries_at, EntriesAre}
use Rattle.closing.specs.Texts.{numbers_from}
use Rattle.closing.proofs.Entered.{AreKnown, name_at, its_schema, none_parts, equals, known_none, entered, all_entered}
use Rattle.closing.proofs.Made.{fresh_at}

-- the instances of different numbers differ
same_number : (is : List Open) (m n : ℕ) → AreDifferent is → m < length is → n < length is → instance_at is m ≡ instance_at is n → m ≡ n
same_number [] m n d l k e = absurd (omega arith)
same_number (t ∷ ts) zero zero d l k e = refl
same_number (t ∷ ts) zero (suc n) d l k e = absurd (d.0 (subst (λ u. IsOneOf u ts) (sym e) (at-one ts n (omega arith))))
same_number (t ∷ ts) (suc m) zero d l k e = absurd (d.0 (subst (λ u. IsOneOf u ts) e (at-one ts m (omega arith))))
same_number (t ∷ ts) (suc m) (suc n) d l k e = ap suc (same_number ts m n d.1 (omega arith) (omega arith) e)

-- a new name is one entry more
length-entered : (k : List ℕ) (s : SchemaOf RefLeaf) (es : List Entry) → find k es ≡ None → length (with_entry k s es) ≡ suc (length es)
length-entered k s [] new = refl
length-entered k s (e ∷ es) new = by (slice_cmp nat_cmp e.0 k) refl (length-entered k s es (none_parts (bytes_eq k e.0) e.1 (find k es) new).1)
  where
    by : (o : Ordering) → slice_cmp nat_cmp e.0 k ≡ o → length (with_entry k s es) ≡ suc (length es) → length (match_ordering o (e ∷ with_entry k s es) (e ∷ es) ((k, s) ∷ e ∷ es)) ≡ suc (suc (length es))
    by Less q rest = ap suc rest
    by Equal q rest = absurd (false≢true (sym (none_parts (bytes_eq k e.0) e.1 (find k es) new).0 ∙ equals e.0 k q))
    by Greater q rest = refl

-- ---- names and numbers

Place : Type 0
Place = List ℕ × ℕ

abbrev pub place_of : Bor (List ℕ) × ℕ → List ℕ × ℕ
place_of e = (e.0.now, e.1)

abbrev compare_names : Bor (List ℕ) → Bor (List ℕ) → Ordering
compare_names k l = slice_cmp nat_cmp k.now l.now

-- the map that keeps the numbers under their names
places-insert : (es : List (Bor (List ℕ) × ℕ)) (k : Bor (List ℕ)) (n : ℕ) → map place_of (insert_entry compare_names es k n) ≡ insert_entry (slice_cmp nat_cmp) (map place_of es) k.now n
places-insert [] k n = refl
places-insert (e ∷ es) k n = by (compare_names k e.0) (places-insert es k n)
  where
    by : (o : Ordering) → map place_of (insert_entry compare_names es k n) ≡ insert_entry (slice_cmp nat_cmp) (map place_of es) k.now n →
        map place_of (match_ordering o ((k, n) ∷ e ∷ es) ((e.0, n) ∷ es) (e ∷ insert_entry compare_names es k n))
        ≡ match_ordering o ((k.now, n) ∷ place_of e ∷ map place_of es) ((e.0.now, n) ∷ map place_of es) (place_of e ∷ insert_entry (slice_cmp nat_cmp) (map place_of es) k.now n)
    by Less h = refl
    by Equal h = refl
    by Greater h = ap (λ t. place_of e ∷ t) h

-- one number more
pub numbers_more : (names : List (List ℕ)) (ns : List ℕ) (i : ℕ) (k : Bor (List ℕ)) (old new : List (Bor (List ℕ) × ℕ)) → i < length ns → k.now ≡ get_or names (get_or ns i 0) [] → new ≡ insert_entry compare_names old k (get_or ns i 0) →
    numbers_from names (map place_of new) (drop (i + 1) ns) ≡ numbers_from names (map place_of old) (drop i ns)
numbers_more names ns i k old new l named e =
    let n = get_or ns i 0 in
    ap (λ ps. numbers_from names ps (drop (i + 1) ns)) (ap (map place_of) e ∙ places-insert old k n ∙ ap (λ m. insert_entry (slice_cmp nat_cmp) (map place_of old) m n) named)
    ∙ ap (numbers_from names (map place_of old)) (sym (drop_more ns i 0 l))

module _ (P : ℕ → Type 0) where
  all-inserted : (ps : List (List ℕ × ℕ)) (k : List ℕ) (n : ℕ) → AllByRecursion (λ p. P p.1) ps → P n → AllByRecursion (λ p. P p.1) (insert_entry (slice_cmp nat_cmp) ps k n)
  all-inserted [] k n h here = (here, tt)
  all-inserted (p ∷ ps) k n h here = by (slice_cmp nat_cmp k p.0) (all-inserted ps k n h.1 here)
    where
      by : (o : Ordering) → AllByRecursion (λ p. P p.1) (insert_entry (slice_cmp nat_cmp) ps k n) → AllByRecursion (λ p. P p.1) (match_ordering o ((k, n) ∷ p ∷ ps) ((p.0, n) ∷ ps) (p ∷ insert_entry (slice_cmp nat_cmp) ps k n))
      by Less g = (here, h)
      by Equal g = (here, h.1)
      by Greater g = (h.0, g)

  -- what holds of each number holds of each under a name
  pub all_numbers : (names : List (List ℕ)) (ps : List (List ℕ × ℕ)) (ns : List ℕ) → AllByRecursion (λ p. P p.1) ps → ((n : ℕ) → IsAmong n ns → P n) → AllByRecursion (λ p. P p.1) (numbers_from names ps ns)
  all_numbers names ps [] h each = h
  all_numbers names ps (n ∷ ns) h each = all_numbers names (insert_entry (slice_cmp nat_cmp) ps (get_or names n []) n) ns (all-inserted ps (get_or names n []) n h (each n (inl refl))) (λ m among. each m (inr among))

-- an entry of a name and a number
abbrev pub with_schema : (ℕ → SchemaOf RefLeaf) → List ℕ × ℕ → Entry
with_schema schema p = (p.0, schema p.1)

inserted-entry : (schema : ℕ → SchemaOf RefLeaf) (ps : List (List ℕ × ℕ)) (k : List ℕ) (n : ℕ) → find k (map (with_schema schema) ps) ≡ None →
    map (with_schema schema) (insert_entry (slice_cmp nat_cmp) ps k n) ≡ with_entry k (schema n) (map (with_schema schema) ps)
inserted-entry schema [] k n new = refl
inserted-entry schema (p ∷ ps) k n new = by (slice_cmp nat_cmp k p.0) refl (inserted-entry schema ps k n parts.1)
  where
    es : List Entry
    es = map (with_schema schema) ps

    parts : (bytes_eq k p.0 ≡ false) × (find k es ≡ None)
    parts = none_parts (bytes_eq k p.0) (schema p.1) (find k es) new

    swap : (o : Ordering) → slice_cmp nat_cmp k p.0 ≡ o → match_ordering (slice_cmp nat_cmp p.0 k) (with_schema schema p ∷ with_entry k (schema n) es) (with_schema schema p ∷ es) ((k, schema n) ∷ with_schema schema p ∷ es)
        ≡ match_ordering (ordering_reverse o) (with_schema schema p ∷ with_entry k (schema n) es) (with_schema schema p ∷ es) ((k, schema n) ∷ with_schema schema p ∷ es)
    swap o q = ap (λ r. match_ordering r (with_schema schema p ∷ with_entry k (schema n) es) (with_schema schema p ∷ es) ((k, schema n) ∷ with_schema schema p ∷ es)) (nat_list_cmp_total.antisymm p.0 k ∙ ap ordering_reverse q)

    by : (o : Ordering) → slice_cmp nat_cmp k p.0 ≡ o → map (with_schema schema) (insert_entry (slice_cmp nat_cmp) ps k n) ≡ with_entry k (schema n) es →
        map (with_schema schema) (match_ordering o ((k, n) ∷ p ∷ ps) ((p.0, n) ∷ ps) (p ∷ insert_entry (slice_cmp nat_cmp) ps k n))
        ≡ match_ordering (slice_cmp nat_cmp p.0 k) (with_schema schema p ∷ with_entry k (schema n) es) (with_schema schema p ∷ es) ((k, schema n) ∷ with_schema schema p ∷ es)
    by Less q rest = sym (swap Less q)
    by Equal q rest = absurd (false≢true (sym parts.0 ∙ equals p.0 k (nat_list_cmp_total.antisymm p.0 k ∙ ap ordering_reverse q)))
    by Greater q rest = ap (λ t. with_schema schema p ∷ t) rest ∙ sym (swap Greater q)

-- ---- entries

among_take : (ns : List ℕ) (i m : ℕ) → IsAmong m (take i ns) → IsAmong m ns
among_take ns zero m h = absurd h
among_take [] (suc i) m h = absurd h
among_take (n ∷ ns) (suc i) m (inl e) = inl e
among_take (n ∷ ns) (suc i) m (inr h) = inr (among_take ns i m h)

module _ (ss : List DeclarationOf) (is : List Open) (are : AreInstances ss is) (differ : NamesDiffer ss) where
  -- the name of a number that is not among the others is new
  pub new_name : (ns : List ℕ) (es : List Entry) (n : ℕ) → ((m : ℕ) → IsAmong m ns → m < length is) → n < length is → ¬ (IsAmong n ns) → AreKnown (name_at ss is) (its_schema ss is) ns es → find (name_at ss is n) es ≡ None
  new_name ns es n within l fresh h = by (find (name_at ss is n) es) refl
    where
      by : (o : Option (SchemaOf RefLeaf)) → find (name_at ss is n) es ≡ o → o ≡ None
      by None e = refl
      by (Some s) e =
          let m = h.known (name_at ss is n) s e in
          let there : m.0 < length is = within m.0 m.1 in
          let same : instance_at is n ≡ instance_at is m.0 = differ (instance_at is n) (instance_at is m.0) (are.reached (instance_at is n) (at-one is n l)) (are.reached (instance_at is m.0) (at-one is m.0 there)) m.2 in
          absurd (fresh (subst (λ k. IsAmong k ns) (sym (same_number is n m.0 are.once l there same)) m.1))

  fresh_more : (done ns : List ℕ) (n : ℕ) → AreOnce (n ∷ ns) → ((m : ℕ) → IsAmong m (n ∷ ns) → ¬ (IsAmong m done)) → (m : ℕ) → IsAmong m ns → ¬ (IsAmong m (done ++ n ∷ []))
  fresh_more done ns n once fresh m among past = by (among_cases m done (n ∷ []) past)
    where
      by : IsAmong m done ⊎ IsAmong m (n ∷ []) → ⊥
      by (inl h) = fresh m (inr among) h
      by (inr (inl e)) = once.0 (subst (λ k. IsAmong k ns) e among)
      by (inr (inr none)) = none

  within_more : (done ns : List ℕ) (n : ℕ) → ((m : ℕ) → IsAmong m done → m < length is) → n < length is → (m : ℕ) → IsAmong m (done ++ n ∷ []) → m < length is
  within_more done ns n within l m among = by (among_cases m done (n ∷ []) among)
    where
      by : IsAmong m done ⊎ IsAmong m (n ∷ []) → m < length is
      by (inl h) = within m h
      by (inr (inl e)) = subst (λ k. k < length is) (sym e) l
      by (inr (inr none)) = absurd none

  one_more : (done : List ℕ) (es : List Entry) (n : ℕ) → find (name_at ss is n) es ≡ None → AreKnown (name_at ss is) (its_schema ss is) done es → AreKnown (name_at ss is) (its_schema ss is) (done ++ n ∷ []) (with_entry (name_at ss is n) (its_schema ss is n) es)
  one_more done es n new h = entered (name_at ss is) (its_schema ss is) n done true es (λ t. new, λ e. refl) h

  known-all : (done ns : List ℕ) (es : List Entry) → ((n : ℕ) → IsAmong n done → n < length is) → ((n : ℕ) → IsAmong n ns → n < length is) → ((n : ℕ) → IsAmong n ns → ¬ (IsAmong n done)) → AreOnce ns → AreKnown (name_at ss is) (its_schema ss is) done es →
      AreKnown (name_at ss is) (its_schema ss is) (done ++ ns) (entries_from ss is es ns) × (length (entries_from ss is es ns) ≡ length es + length ns)
  known-all done [] es before within fresh once h = (subst (λ xs. AreKnown (name_at ss is) (its_schema ss is) xs es) (sym (append-nil done)) h, omega arith)
  known-all done (n ∷ ns) es before within fresh once h =
      let here : n < length is = within n (inl refl) in
      let new : find (name_at ss is n) es ≡ None = new_name done es n before here (fresh n (inl refl)) h in
      let more = with_entry (name_at ss is n) (its_schema ss is n) es in
      let rest = known-all (done ++ n ∷ []) ns more (within_more done ns n before here) (λ m among. within m (inr among)) (fresh_more done ns n once fresh) once.1 (one_more done es n new h) in
      let longer : length more ≡ suc (length es) = length-entered (name_at ss is n) (its_schema ss is n) es new in
      (subst (λ xs. AreKnown (name_at ss is) (its_schema ss is) xs (entries_from ss is more ns)) (append_assoc done (n ∷ []) ns) rest.0, rest.1 ∙ omega (arith, longer))

  -- the entries of numbers under their names are those of the numbers, one after another
  numbers-are : (done ns : List ℕ) (ps : List (List ℕ × ℕ)) → ((n : ℕ) → IsAmong n done → n < length is) → ((n : ℕ) → IsAmong n ns → n < length is) → ((n : ℕ) → IsAmong n ns → ¬ (IsAmong n done)) → AreOnce ns →
      AreKnown (name_at ss is) (its_schema ss is) done (map (with_schema (its_schema ss is)) ps) → map (with_schema (its_schema ss is)) (numbers_from (instance_names ss is) ps ns) ≡ entries_from ss is (map (with_schema (its_schema ss is)) ps) ns
  numbers-are done [] ps before within fresh once h = refl
  numbers-are done (n ∷ ns) ps before within fresh once h =
      let es = map (with_schema (its_schema ss is)) ps in
      let here : n < length is = within n (inl refl) in
      let name : get_or (instance_names ss is) n [] ≡ name_at ss is n = get_or-map (instance_name ss) is n unit [] here in
      let new : find (name_at ss is n) es ≡ None = new_name done es n before here (fresh n (inl refl)) h in
      let qs = insert_entry (slice_cmp nat_cmp) ps (get_or (instance_names ss is) n []) n in
      let is_one : map (with_schema (its_schema ss is)) qs ≡ with_entry (name_at ss is n) (its_schema ss is n) es =
      ap (λ k. map (with_schema (its_schema ss is)) (insert_entry (slice_cmp nat_cmp) ps k n)) name ∙ inserted-entry (its_schema ss is) ps (name_at ss is n) n new in
      numbers-are (done ++ n ∷ []) ns qs (within_more done ns n before here) (λ m among. within m (inr among)) (fresh_more done ns n once fresh) once.1
      (subst (AreKnown (name_at ss is) (its_schema ss is) (done ++ n ∷ [])) (sym is_one) (one_more done es n new h))
      ∙ ap (λ xs. entries_from ss is xs ns) is_one

  pub numbers_are : (ns : List ℕ) → AreOnce ns → ((n : ℕ) → IsAmong n ns → n < length is) → map (with_schema (its_schema ss is)) (numbers_from (instance_names ss is) [] ns) ≡ entries_at ss is ns
  numbers_are ns once within = numbers-are [] ns [] (λ n none. absurd none) within (λ n among none. none) once (known_none (name_at ss is) (its_schema ss is))

  -- the entries of numbers are known, and as many
  pub entries_known : (ns : List ℕ) → AreOnce ns → ((n : ℕ) → IsAmong n ns → n < length is) → AreKnown (name_at ss is) (its_schema ss is) ns (entries_at ss is ns) × (length (entries_at ss is ns) ≡ length ns)
  entries_known ns once within =
      let h = known-all [] ns [] (λ n none. absurd none) within (λ n among none. none) once (known_none (name_at ss is) (its_schema ss is)) in
      let many : length (entries_from ss is [] ns) ≡ length ns = h.1 ∙ omega arith in
      (h.0, many)

  -- one turn of the loop that enters them
  pub entries_more : (ns : List ℕ) (i : ℕ) (k : List ℕ) (s : SchemaOf RefLeaf) (added : Bool) (es after : List Entry) → i < length ns → AreOnce ns → ((n : ℕ) → IsAmong n ns → n < length is) → k ≡ name_at ss is (get_or ns i 0) → s ≡ its_schema ss is (get_or ns i 0) →
      (IsTrue added ↔ (find k es ≡ None)) → after ≡ cond added (with_entry k s es) es → AreKnown (name_at ss is) (its_schema ss is) (take i ns) es → entries_from ss is after (drop (i + 1) ns) ≡ entries_from ss is es (drop i ns)
  entries_more ns i k s added es after l once within named made new entry h =
      let n = get_or ns i 0 in
      let among : IsAmong n ns = among_at ns i 0 l in
      let before : (m : ℕ) → IsAmong m (take i ns) → m < length is = λ m a. within m (among_take ns i m a) in
      let absent : find (name_at ss is n) es ≡ None = new_name (take i ns) es n before (within n among) (fresh_at ns i once l) h in
      let put : added ≡ true = new.1 (ap (λ q. find q es) named ∙ absent) in
      ap (λ xs. entries_from ss is xs (drop (i + 1) ns)) (entry ∙ ap (λ b. cond b (with_entry k s es) es) put ∙ (λ j. with_entry (named j) (made j) es))
      ∙ ap (entries_from ss is es) (sym (drop_more ns i 0 l))

pub entries-are : EntriesAre
entries-are ss is ns are differ once within =
    let h = entries_known ss is are differ ns once within in
    (all_entered ss is are differ ns (entries_at ss is ns) (λ n among. at-one is n (within n among)) h.0, h.1)
