-- Schemas of instances that are made one after another, each behind those that stand in it.
use Rattle.std.proofs.Common.{ℕ, zero, suc, ◌+◌, ◌<◌, ◌≤◌, ◌⊎◌, List, [], ◌∷◌, ◌++◌, length, map, take, get_or, set, Bool, IsTrue, ◌≡◌, ◌≢◌, refl, ap, sym, subst, ◌∙◌, inl, inr, arith}
use Rattle.std.specs.List.{filter_map}
use Rattle.std.proofs.lemmas.List.{take_more, map-set, length-map, get_or-map, get_or-set_other}
use Rattle.schema_trees.specs.declared.tree.RefLeaf.{RefLeaf}
use Rattle.schema_trees.specs.declared.tree.Tree.{Tree}
use Rattle.schema_trees.specs.Schema.{SchemaOf, schema_view, leaf, bind}
use Rattle.component.specs.Leaves.{term_view, param}
use Rattle.component.specs.declared.term.TermLeaf.{TermLeaf}
use Rattle.open_types.specs.Open.{Open}
use Rattle.open_types.specs.Laws.{SameIsEqual, SubstitutedNone}
use Rattle.shapes.specs.Declarations.{DeclarationOf}
use Rattle.shapes.specs.InstanceShape.{IsReachable}
use Rattle.terms.specs.InstanceTerms.{instance_term}
use Rattle.inlining.specs.Inlining.{targets_of, IsAmong, AreBehind, AreOnce}
use Rattle.inlining.specs.Marks.{mark}
use Rattle.inlining.proofs.Laws.{among-left, among-right, among_cases, among_at}
use Rattle.instances.specs.Lists.{IsOneOf, number_in, instance_at, AreInstances}
use Rattle.instances.proofs.Laws.{at-one}
use Rattle.closing.specs.Closed.{any_value, schema_in}
use Rattle.closing.specs.Closed.{put, instance_schema, schema_of, made_at}
use Rattle.closing.specs.Described.{AreShallow}
use Rattle.closing.specs.Links.{targets_at, inlining_of}
use Rattle.closing.specs.Made.{AreAlong}
use Rattle.closing.proofs.InstanceDepth.{made-in-order}
use Rattle.closing.proofs.InstanceDescribed.{target-reachable}
use Rattle.closing.proofs.InstanceNumbers.{HasNumber, with_number, found-among, of-number}

-- ---- a list of schemas

pub schema_at : (made : List (Tree RefLeaf)) (d : ℕ) (x : Tree RefLeaf) → d < length made → schema_in (map schema_view made) d ≡ schema_view (get_or made d x)
schema_at [] d x l = absurd (omega arith)
schema_at (s ∷ made) zero x l = refl
schema_at (s ∷ made) (suc d) x l = schema_at made d x (omega arith)

-- past the end nothing is said
pub schema_past : (made : List (Tree RefLeaf)) (d : ℕ) → length made ≤ d → schema_in (map schema_view made) d ≡ any_value
schema_past [] d l = refl
schema_past (s ∷ made) zero l = absurd (omega arith)
schema_past (s ∷ made) (suc d) l = schema_past made d (omega arith)

put_in : (made : List (Tree RefLeaf)) (i : ℕ) (s : Tree RefLeaf) → i < length made → schema_in (map schema_view (set made i s)) i ≡ schema_view s
put_in [] i s l = absurd (omega arith)
put_in (y ∷ made) zero s l = refl
put_in (y ∷ made) (suc i) s l = put_in made i s (omega arith)

pub kept : (made : List (Tree RefLeaf)) (i d : ℕ) (s : Tree RefLeaf) → (d ≡ i) ⊎ (schema_in (map schema_view (set made i s)) d ≡ schema_in (map schema_view made) d)
kept [] i d s = inr refl
kept (y ∷ made) zero zero s = inl refl
kept (y ∷ made) zero (suc d) s = inr refl
kept (y ∷ made) (suc i) zero s = inr refl
kept (y ∷ made) (suc i) (suc d) s = by (kept made i d s)
  where
    by : (d ≡ i) ⊎ (schema_in (map schema_view (set made i s)) d ≡ schema_in (map schema_view made) d) →
        (suc d ≡ suc i) ⊎ (schema_in (map schema_view (set made i s)) d ≡ schema_in (map schema_view made) d)
    by (inl e) = inl (ap suc e)
    by (inr e) = inr e

-- ---- an order

-- of a list that has each once, a number is not among those before it
pub fresh_at : (ds : List ℕ) (i : ℕ) → AreOnce ds → i < length ds → ¬ (IsAmong (get_or ds i 0) (take i ds))
fresh_at [] i once h = absurd (omega arith)
fresh_at (d ∷ ds) zero once h = λ none. none
fresh_at (d ∷ ds) (suc i) once h = by (fresh_at ds i once.1 (omega arith))
  where
    by : ¬ (IsAmong (get_or ds i 0) (take i ds)) → (get_or ds i 0 ≡ d) ⊎ IsAmong (get_or ds i 0) (take i ds) → ⊥
    by before (inl same) = once.0 (subst (λ e. IsAmong e ds) same (among_at ds i 0 (omega arith)))
    by before (inr among) = before among

-- what is not among some of the list is not the next one either
pub not_next : (ds : List ℕ) (i n : ℕ) → i < length ds → ¬ (IsAmong n (take (i + 1) ds)) → (n ≢ get_or ds i 0) × (¬ (IsAmong n (take i ds)))
not_next ds i n h none =
    let p = get_or ds i 0 in
    let more : take (i + 1) ds ≡ take i ds ++ p ∷ [] = take_more ds i 0 h in
    (λ same. none (subst (IsAmong n) (sym more) (among-right n (take i ds) (p ∷ []) (inl same))), λ among. none (subst (IsAmong n) (sym more) (among-left n (take i ds) (p ∷ []) among)))

-- each of an order is an instance
pub order-within : (g : List (List ℕ)) (seen ds : List ℕ) → AreBehind g seen ds → (n : ℕ) → IsAmong n ds → n < length g
order-within g seen [] behind n none = absurd none
order-within g seen (d ∷ ds) behind n (inl e) = subst (λ m. m < length g) (sym e) behind.0
order-within g seen (d ∷ ds) behind n (inr h) = order-within g (d ∷ seen) ds behind.2 n h

-- ---- marks and what is made

module _ (ss : List DeclarationOf) (is : List Open) (marks : List Bool) where
  -- the schemas of these instances are made, where they are marked
  abbrev pub AreMade : List (Tree RefLeaf) → List ℕ → Type 0
  AreMade made ds = (n : ℕ) → IsAmong n ds → IsTrue (mark marks n) → schema_in (map schema_view made) n ≡ instance_schema ss (instance_at is n)

  -- one schema more
  pub made_more : (made : List (Tree RefLeaf)) (ds : List ℕ) (i : ℕ) (s : Tree RefLeaf) → i < length ds → get_or ds i 0 < length made → schema_view s ≡ instance_schema ss (instance_at is (get_or ds i 0)) → AreMade made (take i ds) →
      AreMade (set made (get_or ds i 0) s) (take (i + 1) ds)
  made_more made ds i s h l e all n among m = by (kept made (get_or ds i 0) n s) (among_cases n (take i ds) (get_or ds i 0 ∷ []) (subst (IsAmong n) (take_more ds i 0 h) among))
    where
      here : n ≡ get_or ds i 0 → schema_in (map schema_view (set made (get_or ds i 0) s)) n ≡ instance_schema ss (instance_at is n)
      here same = ap (schema_in (map schema_view (set made (get_or ds i 0) s))) same ∙ put_in made (get_or ds i 0) s l ∙ e ∙ ap (λ k. instance_schema ss (instance_at is k)) (sym same)

      by : (n ≡ get_or ds i 0) ⊎ (schema_in (map schema_view (set made (get_or ds i 0) s)) n ≡ schema_in (map schema_view made) n) → IsAmong n (take i ds) ⊎ IsAmong n (get_or ds i 0 ∷ []) →
          schema_in (map schema_view (set made (get_or ds i 0) s)) n ≡ instance_schema ss (instance_at is n)
      by (inl same) j = here same
      by (inr other) (inl j) = other ∙ all n j m
      by (inr other) (inr (inl same)) = here same
      by (inr other) (inr (inr none)) = absurd none

  -- one that is not marked is passed
  pub made_over : (made : List (Tree RefLeaf)) (ds : List ℕ) (i : ℕ) → i < length ds → ¬ IsTrue (mark marks (get_or ds i 0)) → AreMade made (take i ds) → AreMade made (take (i + 1) ds)
  made_over made ds i h unmarked all n among m = by (among_cases n (take i ds) (get_or ds i 0 ∷ []) (subst (IsAmong n) (take_more ds i 0 h) among))
    where
      by : IsAmong n (take i ds) ⊎ IsAmong n (get_or ds i 0 ∷ []) → schema_in (map schema_view made) n ≡ instance_schema ss (instance_at is n)
      by (inl j) = all n j m
      by (inr (inl same)) = absurd (unmarked (subst (λ k. IsTrue (mark marks k)) same m))
      by (inr (inr none)) = absurd none

  -- the terms of those that are not among these are still there, where they are marked
  abbrev pub AreWaiting : List (Tree TermLeaf) → List ℕ → Type 0
  AreWaiting terms ds = (n : ℕ) → n < length is → IsTrue (mark marks n) → ¬ (IsAmong n ds) → get_or (map term_view terms) n (leaf (param 0)) ≡ instance_term ss (instance_at is n)

  -- one that is let go is among those that are done
  pub waiting_more : (terms : List (Tree TermLeaf)) (ds : List ℕ) (i : ℕ) (t : Tree TermLeaf) → i < length ds → AreWaiting terms (take i ds) → AreWaiting (set terms (get_or ds i 0) t) (take (i + 1) ds)
  waiting_more terms ds i t h waiting n l m none =
      let p = get_or ds i 0 in
      let other = not_next ds i n h none in
      ap (λ xs. get_or xs n (leaf (param 0))) (map-set term_view terms p t) ∙ get_or-set_other (map term_view terms) p n (term_view t) (leaf (param 0)) other.0 ∙ waiting n l m other.1

  -- the term that waits
  pub waiting_at : (terms : List (Tree TermLeaf)) (ds : List ℕ) (n : ℕ) (x : Tree TermLeaf) → AreWaiting terms ds → n < length is → n < length terms → IsTrue (mark marks n) → ¬ (IsAmong n ds) → x ≡ get_or terms n x → term_view x ≡ instance_term ss (instance_at is n)
  waiting_at terms ds n x waiting l here m none at = ap term_view at ∙ sym (get_or-map term_view terms n x (leaf (param 0)) here) ∙ waiting n l m none

  -- the schemas of those that are not among these are still there
  abbrev pub AreLeft : List (Tree RefLeaf) → List ℕ → Type 0
  AreLeft made ds = (n : ℕ) → n < length is → IsTrue (mark marks n) → ¬ (IsAmong n ds) → schema_in (map schema_view made) n ≡ instance_schema ss (instance_at is n)

  pub left_more : (made : List (Tree RefLeaf)) (ds : List ℕ) (i : ℕ) (s : Tree RefLeaf) → i < length ds → AreLeft made (take i ds) → AreLeft (set made (get_or ds i 0) s) (take (i + 1) ds)
  left_more made ds i s h left n l m none = by (kept made (get_or ds i 0) n s)
    where
      by : (n ≡ get_or ds i 0) ⊎ (schema_in (map schema_view (set made (get_or ds i 0) s)) n ≡ schema_in (map schema_view made) n) → schema_in (map schema_view (set made (get_or ds i 0) s)) n ≡ instance_schema ss (instance_at is n)
      by (inl same) = absurd ((not_next ds i n h none).0 same)
      by (inr other) = other ∙ left n l m (not_next ds i n h none).1

-- there are as many lists of targets as instances
pub as-many : (ss : List DeclarationOf) (is : List Open) → length (inlining_of ss is) ≡ length is
as-many ss is = length-map is (λ t. filter_map (number_in is) (targets_at ss t))

-- ---- the schema that is put together

module _ (same : SameIsEqual) (none : SubstitutedNone) (ss : List DeclarationOf) (is : List Open) (are : AreInstances ss is) (shallow : AreShallow ss) (marks : List Bool) (along : AreAlong marks (inlining_of ss is)) where
  abbrev row : Open → List ℕ
  row t = filter_map (number_in is) (targets_at ss t)

  -- where the schemas of its targets are made, so is that of an instance
  pub schema_is : (made : List (Tree RefLeaf)) (p : ℕ) → p < length is → IsTrue (mark marks p) → AreMade ss is marks made (targets_of (inlining_of ss is) p) →
      bind (put ss (made_at is (map schema_view made))) (instance_term ss (instance_at is p)) ≡ instance_schema ss (instance_at is p)
  schema_is made p l m all = made-in-order ss shallow t reached (made_at is (map schema_view made)) each
    where
      t : Open
      t = instance_at is p

      reached : IsReachable ss t
      reached = are.reached t (at-one is p l)

      each : (u : Open) → IsOneOf u (targets_at ss t) → made_at is (map schema_view made) u ≡ instance_schema ss u
      each u o =
          let n : (k : ℕ) × HasNumber is u k = with_number same is u (are.all u (target-reachable none ss t u reached o)) in
          let among : IsAmong n.0 (targets_of (inlining_of ss is) p) = subst (IsAmong n.0) (sym (of-number row is p l)) (found-among (number_in is) (targets_at ss t) u n.0 o n.1.found) in
          ap (schema_of (map schema_view made)) n.1.found ∙ all n.0 among (along p n.0 m among) ∙ ap (instance_schema ss) n.1.is_at

  -- the same, of the term that waits
  pub next_schema : (terms : List (Tree TermLeaf)) (made now : List (Tree RefLeaf)) (done : List ℕ) (p : ℕ) (x : Tree TermLeaf) (s : SchemaOf RefLeaf) → AreWaiting ss is marks terms done → ¬ (IsAmong p done) → p < length terms → p < length is → IsTrue (mark marks p) →
      AreMade ss is marks made (targets_of (inlining_of ss is) p) → now ≡ made → x ≡ get_or terms p x → s ≡ bind (put ss (made_at is (map schema_view now))) (term_view x) → s ≡ instance_schema ss (instance_at is p)
  next_schema terms made now done p x s waiting fresh here l m all now-made at e =
      e
      ∙ ap (λ xs. bind (put ss (made_at is (map schema_view xs))) (term_view x)) now-made
      ∙ ap (bind (put ss (made_at is (map schema_view made)))) (waiting_at ss is marks terms done p x waiting l here m fresh at)
      ∙ schema_is made p l m all
