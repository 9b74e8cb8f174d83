-- Components that are entered one after another under their names.
use Rattle.std.proofs.Common.{ℕ, ◌+◌, ◌<◌, List, [], ◌∷◌, ◌++◌, Option, Some, None, is_some, IsTrue, Bool, true, false, cond, bytes_eq, length, map, take, get_or, nat_cmp, Ordering, Less, Equal, Greater, is_eq, ◌≡◌, refl, ap, sym, subst, ◌∙◌, inl, inr, ◌↔◌}
use Rattle.std.specs.Cmp.Lexicographic.{slice_cmp}
use Rattle.std.specs.Ordering.{match_ordering, ordering_reverse}
use Rattle.std.specs.List.{AllByRecursion}
use Rattle.std.specs.List.Sorted.{IsStrictlySortedBy}
use Rattle.std.proofs.lemmas.Bool.{false≢true}
use Rattle.std.proofs.lemmas.Cmp.{nat_list_cmp_total}
use Rattle.std.proofs.lemmas.List.{take_more}
use Rattle.std.proofs.lemmas.Map.Text.{is_eq-slice_cmp}
use Rattle.std.proofs.lemmas.Option.{none-some, same_Some}
use Rattle.std.proofs.lemmas.Slice.Eq.{bytes_eq-Decides}
use Rattle.schema_trees.specs.declared.tree.RefLeaf.{RefLeaf}
use Rattle.schema_trees.specs.Schema.{SchemaOf}
use Rattle.schema_core.specs.Document.{Entry}
use Rattle.schema_core.specs.Entries.{find, entry_names, with_entry, IsInOrder}
use Rattle.open_types.specs.Open.{Open}
use Rattle.shapes.specs.Declarations.{DeclarationOf}
use Rattle.shapes.specs.InstanceNames.{instance_name}
use Rattle.inlining.specs.Inlining.{IsAmong}
use Rattle.inlining.proofs.Laws.{among_cases}
use Rattle.instances.specs.Lists.{IsOneOf, instance_at, AreInstances}
use Rattle.instances.specs.Names.{NamesDiffer}
use Rattle.closing.specs.Closed.{instance_schema}
use Rattle.closing.specs.Made.{AreEntriesOf}

same_text : (k : List ℕ) → bytes_eq k k ≡ true
same_text k = (bytes_eq-Decides k k).1 refl

-- ---- one entry more

pub none_parts : {A : Type 0} (b : Bool) (x : A) (p : Option A) → cond b (Some x) p ≡ None → (b ≡ false) × (p ≡ None)
none_parts true x p e = absurd (none-some x (sym e))
none_parts false x p e = (refl, e)

pub equals : (n k : List ℕ) → slice_cmp nat_cmp n k ≡ Equal → bytes_eq k n ≡ true
equals n k e = (bytes_eq-Decides k n).1 (sym ((bytes_eq-Decides n k).0 (sym (is_eq-slice_cmp n k) ∙ ap is_eq e)))

swapped : {A : Type 0} (a b : Bool) (x y : A) (p : Option A) → (a ≡ true → b ≡ true → ⊥) → cond a (Some x) (cond b (Some y) p) ≡ cond b (Some y) (cond a (Some x) p)
swapped true true x y p h = absurd (h refl refl)
swapped true false x y p h = refl
swapped false b x y p h = refl

-- what is found after the name was put in, where it was new
pub find-entered : (k : List ℕ) (s : SchemaOf RefLeaf) (es : List Entry) → find k es ≡ None → (name : List ℕ) → find name (with_entry k s es) ≡ cond (bytes_eq name k) (Some s) (find name es)
find-entered k s [] new name = refl
find-entered k s (e ∷ es) new name = by (slice_cmp nat_cmp e.0 k) refl (find-entered k s es (none_parts (bytes_eq k e.0) e.1 (find k es) new).1 name)
  where
    differs : bytes_eq k e.0 ≡ false
    differs = (none_parts (bytes_eq k e.0) e.1 (find k es) new).0

    never : bytes_eq name e.0 ≡ true → bytes_eq name k ≡ true → ⊥
    never t u = false≢true (sym differs ∙ (bytes_eq-Decides k e.0).1 (sym ((bytes_eq-Decides name k).0 u) ∙ (bytes_eq-Decides name e.0).0 t))

    by : (o : Ordering) → slice_cmp nat_cmp e.0 k ≡ o → find name (with_entry k s es) ≡ cond (bytes_eq name k) (Some s) (find name es) →
        find name (match_ordering o (e ∷ with_entry k s es) (e ∷ es) ((k, s) ∷ e ∷ es)) ≡ cond (bytes_eq name k) (Some s) (cond (bytes_eq name e.0) (Some e.1) (find name es))
    by Less q before = ap (cond (bytes_eq name e.0) (Some e.1)) before ∙ swapped (bytes_eq name e.0) (bytes_eq name k) e.1 s (find name es) never
    by Equal q before = absurd (false≢true (sym differs ∙ equals e.0 k q))
    by Greater q before = refl

all-entered : (P : List ℕ → Type 0) (k : List ℕ) (s : SchemaOf RefLeaf) (es : List Entry) → AllByRecursion P (entry_names es) → P k → AllByRecursion P (entry_names (with_entry k s es))
all-entered P k s [] h p = (p, tt)
all-entered P k s (e ∷ es) h p = by (slice_cmp nat_cmp e.0 k) (all-entered P k s es h.1 p)
  where
    by : (o : Ordering) → AllByRecursion P (entry_names (with_entry k s es)) → AllByRecursion P (entry_names (match_ordering o (e ∷ with_entry k s es) (e ∷ es) ((k, s) ∷ e ∷ es)))
    by Less rest = (h.0, rest)
    by Equal rest = h
    by Greater rest = (p, h)

above : (k n : List ℕ) (ns : List (List ℕ)) → slice_cmp nat_cmp k n ≡ Less → AllByRecursion (λ y. slice_cmp nat_cmp n y ≡ Less) ns → AllByRecursion (λ y. slice_cmp nat_cmp k y ≡ Less) ns
above k n [] l h = tt
above k n (m ∷ ns) l h = (nat_list_cmp_total.trans k n m l h.0, above k n ns l h.1)

pub order-entered : (k : List ℕ) (s : SchemaOf RefLeaf) (es : List Entry) → IsInOrder (entry_names es) → IsInOrder (entry_names (with_entry k s es))
unfolding IsStrictlySortedBy
order-entered k s [] h = (tt, tt)
order-entered k s (e ∷ es) h = by (slice_cmp nat_cmp e.0 k) refl (order-entered k s es h.1)
  where
    by : (o : Ordering) → slice_cmp nat_cmp e.0 k ≡ o → IsInOrder (entry_names (with_entry k s es)) → IsInOrder (entry_names (match_ordering o (e ∷ with_entry k s es) (e ∷ es) ((k, s) ∷ e ∷ es)))
    by Less q rest = (all-entered (λ y. slice_cmp nat_cmp e.0 y ≡ Less) k s es h.0 q, rest)
    by Equal q rest = h
    by Greater q rest =
        let below : slice_cmp nat_cmp k e.0 ≡ Less = nat_list_cmp_total.antisymm k e.0 ∙ ap ordering_reverse q in
        ((below, above k e.0 (entry_names es) below h.0), h)

-- ---- one turn

given : {A : Type 0} (o : Option A) → (o ≡ None → ⊥) → IsTrue (is_some o)
given None h = absurd (h refl)
given (Some x) h = refl

cond-some : {A : Type 0} (b : Bool) (x : A) (o : Option A) → IsTrue (is_some o) → IsTrue (is_some (cond b (Some x) o))
cond-some true x o h = refl
cond-some false x o h = h

still : (k : List ℕ) (s : SchemaOf RefLeaf) (name : List ℕ) (components : List Entry) (added : Bool) → (IsTrue added ↔ (find name components ≡ None)) → IsTrue (is_some (find k components)) →
    IsTrue (is_some (find k (cond added (with_entry name s components) components)))
still k s name components false g f = f
still k s name components true g f = subst (λ o. IsTrue (is_some o)) (sym (find-entered name s components (g.0 refl) k)) (cond-some (bytes_eq k name) s (find k components) f)

there : (s : SchemaOf RefLeaf) (name : List ℕ) (components : List Entry) (added : Bool) → (IsTrue added ↔ (find name components ≡ None)) → IsTrue (is_some (find name (cond added (with_entry name s components) components)))
there s name components false g = given (find name components) (λ e. false≢true (g.1 e))
there s name components true g = subst (λ o. IsTrue (is_some o)) (sym (find-entered name s components (g.0 refl) name ∙ ap (λ b. cond b (Some s) (find name components)) (same_text name))) refl

module _ (name : ℕ → List ℕ) (schema : ℕ → SchemaOf RefLeaf) where
  -- each component is that of one of the numbers, under its name, and each of the numbers has one; they are in order
  pub record AreKnown (ns : List ℕ) (components : List Entry) : Type 0 where
    pub known : (k : List ℕ) (s : SchemaOf RefLeaf) → find k components ≡ Some s → (n : ℕ) × IsAmong n ns × (k ≡ name n) × (s ≡ schema n)
    pub all : (n : ℕ) → IsAmong n ns → IsTrue (is_some (find (name n) components))
    pub order : IsInOrder (entry_names components)

  pub known_none : AreKnown [] []
  unfolding IsStrictlySortedBy
  known_none = record { known = λ k s e. absurd (none-some s e); all = λ n h. absurd h; order = tt }

  in-front : (n m : ℕ) (ns : List ℕ) → IsAmong n ns → IsAmong n (ns ++ m ∷ [])
  in-front n m [] h = absurd h
  in-front n m (k ∷ ns) (inl e) = inl e
  in-front n m (k ∷ ns) (inr h) = inr (in-front n m ns h)

  at-end : (m : ℕ) (ns : List ℕ) → IsAmong m (ns ++ m ∷ [])
  at-end m [] = inl refl
  at-end m (k ∷ ns) = inr (at-end m ns)

  -- the components after the schema of a number was put in under its name
  pub entered : (m : ℕ) (ns : List ℕ) (added : Bool) (components : List Entry) → (IsTrue added ↔ (find (name m) components ≡ None)) → AreKnown ns components →
      AreKnown (ns ++ m ∷ []) (cond added (with_entry (name m) (schema m) components) components)
  entered m ns added components new h = record { known = known added new; all = all; order = order added new }
    where
      known : (b : Bool) → (IsTrue b ↔ (find (name m) components ≡ None)) → (k : List ℕ) (s : SchemaOf RefLeaf) → find k (cond b (with_entry (name m) (schema m) components) components) ≡ Some s →
          (n : ℕ) × IsAmong n (ns ++ m ∷ []) × (k ≡ name n) × (s ≡ schema n)
      known false g k s f = let is = h.known k s f in (is.0, in-front is.0 m ns is.1, is.2, is.3)
      known true g k s f = by (bytes_eq k (name m)) refl (sym (find-entered (name m) (schema m) components (g.0 refl) k) ∙ f)
        where
          by : (b : Bool) → bytes_eq k (name m) ≡ b → cond b (Some (schema m)) (find k components) ≡ Some s → (n : ℕ) × IsAmong n (ns ++ m ∷ []) × (k ≡ name n) × (s ≡ schema n)
          by true u e = (m, at-end m ns, (bytes_eq-Decides k (name m)).0 u, sym (same_Some (schema m) s e))
          by false u e = let is = h.known k s e in (is.0, in-front is.0 m ns is.1, is.2, is.3)

      all : (n : ℕ) → IsAmong n (ns ++ m ∷ []) → IsTrue (is_some (find (name n) (cond added (with_entry (name m) (schema m) components) components)))
      all n a = elim (among_cases n ns (m ∷ []) a) [
        | inl o ↦ still (name n) (schema m) (name m) components added new (h.all n o)
        | inr o ↦ last n o
      ]
        where
          last : (n : ℕ) → IsAmong n (m ∷ []) → IsTrue (is_some (find (name n) (cond added (with_entry (name m) (schema m) components) components)))
          last n (inl e) = subst (λ k. IsTrue (is_some (find (name k) (cond added (with_entry (name m) (schema m) components) components)))) (sym e) (there (schema m) (name m) components added new)
          last n (inr none) = absurd none

      order : (b : Bool) → (IsTrue b ↔ (find (name m) components ≡ None)) → IsInOrder (entry_names (cond b (with_entry (name m) (schema m) components) components))
      order false g = h.order
      order true g = order-entered (name m) (schema m) components h.order

  -- one turn of the loop over a list of numbers
  pub known_more : (ns : List ℕ) (i : ℕ) (k : List ℕ) (s : SchemaOf RefLeaf) (added : Bool) (components after : List Entry) → i < length ns → k ≡ name (get_or ns i 0) → s ≡ schema (get_or ns i 0) →
      (IsTrue added ↔ (find k components ≡ None)) → after ≡ cond added (with_entry k s components) components → AreKnown (take i ns) components → AreKnown (take (i + 1) ns) after
  known_more ns i k s added components after l n e new is h =
      let m = get_or ns i 0 in
      subst (λ xs. AreKnown xs after) (sym (take_more ns i 0 l))
      (subst (AreKnown (take i ns ++ m ∷ [])) (sym (is ∙ (λ j. cond added (with_entry (n j) (e j) components) components)))
      (entered m (take i ns) added components (subst (λ q. IsTrue added ↔ (find q components ≡ None)) n new) h))

-- ---- the end

one_of-map : (is : List Open) (ns : List ℕ) (t : Open) → IsOneOf t (map (instance_at is) ns) → (n : ℕ) × IsAmong n ns × (t ≡ instance_at is n)
one_of-map is [] t o = absurd o
one_of-map is (n ∷ ns) t (inl e) = (n, inl refl, e)
one_of-map is (n ∷ ns) t (inr o) = let m = one_of-map is ns t o in (m.0, inr m.1, m.2)

map-one_of : (is : List Open) (ns : List ℕ) (n : ℕ) → IsAmong n ns → IsOneOf (instance_at is n) (map (instance_at is) ns)
map-one_of is [] n a = absurd a
map-one_of is (m ∷ ns) n (inl e) = inl (ap (instance_at is) e)
map-one_of is (m ∷ ns) n (inr a) = inr (map-one_of is ns n a)

-- the name and the schema of the instance of a number
abbrev pub name_at : List DeclarationOf → List Open → ℕ → List ℕ
name_at ss is n = instance_name ss (instance_at is n)

abbrev pub its_schema : List DeclarationOf → List Open → ℕ → SchemaOf RefLeaf
its_schema ss is n = instance_schema ss (instance_at is n)

module _ (ss : List DeclarationOf) (is : List Open) (are : AreInstances ss is) (differ : NamesDiffer ss) where
  -- components that are known are those of their instances
  pub all_entered : (ns : List ℕ) (components : List Entry) → ((n : ℕ) → IsAmong n ns → IsOneOf (instance_at is n) is) → AreKnown (name_at ss is) (its_schema ss is) ns components → AreEntriesOf ss (map (instance_at is) ns) components
  all_entered ns components within h = record { held = held; only = only; order = h.order }
    where
      found : (o : Option (SchemaOf RefLeaf)) → IsTrue (is_some o) → (s : SchemaOf RefLeaf) × (o ≡ Some s)
      found None f = absurd (false≢true f)
      found (Some s) f = (s, refl)

      only : (k : List ℕ) → IsTrue (is_some (find k components)) → (t : Open) × IsOneOf t (map (instance_at is) ns) × (k ≡ instance_name ss t)
      only k f =
          let s = found (find k components) f in
          let n = h.known k s.0 s.1 in
          (instance_at is n.0, map-one_of is ns n.0 n.1, n.2)

      held : (t : Open) → IsOneOf t (map (instance_at is) ns) → find (instance_name ss t) components ≡ Some (instance_schema ss t)
      held t o =
          let n = one_of-map is ns t o in
          let s = found (find (name_at ss is n.0) components) (h.all n.0 n.1) in
          let m = h.known (name_at ss is n.0) s.0 s.1 in
          let same : instance_at is n.0 ≡ instance_at is m.0 = differ (instance_at is n.0) (instance_at is m.0) (are.reached (instance_at is n.0) (within n.0 n.1)) (are.reached (instance_at is m.0) (within m.0 m.1)) m.2 in
          ap (λ u. find (instance_name ss u) components) n.2 ∙ s.1 ∙ ap Some (m.3 ∙ ap (instance_schema ss) (sym same ∙ sym n.2))
