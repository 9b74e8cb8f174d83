-- What is shown, and what is a component, by number and by instance.
use Rattle.std.proofs.Common.{ℕ, zero, suc, ◌<◌, ◌+◌, List, [], ◌∷◌, ◌++◌, length, map, Bool, true, false, cond, Some, option_map, IsTrue, ◌≡◌, refl, ap, sym, subst, ◌∙◌, inl, inr, ◌⊎◌, ◌↔◌, arith}
use Rattle.std.proofs.lemmas.List.{length-map}
use Rattle.std.proofs.lemmas.Option.{same_Some}
use Rattle.open_types.specs.Open.{Open}
use Rattle.open_types.specs.Same.{same_type}
use Rattle.open_types.specs.Laws.{SameIsEqual, SubstitutedNone}
use Rattle.shapes.specs.Declarations.{DeclarationOf}
use Rattle.shapes.specs.InstanceShape.{IsReachable}
use Rattle.inlining.specs.Inlining.{targets_of, IsAmong, AreOnce, AreTargets}
use Rattle.inlining.specs.Shown.{IsShown as IsNumberShown, IsComponent as IsNumberComponent}
use Rattle.inlining.specs.Shown as numbers
use Rattle.instances.specs.Lists.{IsOneOf, number_in, instance_at, AreDifferent, AreInstances}
use Rattle.instances.proofs.Laws.{at-one}
use Rattle.closing.specs.Links.{targets_at, references_at, numbered, inlining_of, referring_of, IsFirst, IsShown, IsComponent, AreComponentsOf}
use Rattle.closing.specs.Links as link
use Rattle.closing.proofs.InstanceDescribed.{shown-reachable, component-shown}
use Rattle.closing.proofs.InstanceNumbers.{HasNumber, with_number, of-number, found-among, row-one, rows-within}

-- ---- numbers that are chosen one after another

-- those below k of which the fact holds
pub record AreChosen (P : ℕ → Type 0) (k : ℕ) (chosen : List ℕ) : Type 0 where
  pub each : (n : ℕ) → IsAmong n chosen ↔ ((n < k) × P n)

module _ (P : ℕ → Type 0) where
  last : (n m : ℕ) (ns : List ℕ) → IsAmong n (ns ++ m ∷ []) → IsAmong n ns ⊎ (n ≡ m)
  last n m [] (inl e) = inr e
  last n m [] (inr h) = absurd h
  last n m (k ∷ ks) (inl e) = inl (inl e)
  last n m (k ∷ ks) (inr h) = elim (last n m ks h) [
    | inl a ↦ inl (inr a)
    | inr e ↦ inr e
  ]

  kept : (n m : ℕ) (ns : List ℕ) → IsAmong n ns → IsAmong n (ns ++ m ∷ [])
  kept n m [] a = absurd a
  kept n m (k ∷ ks) (inl e) = inl e
  kept n m (k ∷ ks) (inr h) = inr (kept n m ks h)

  added : (m : ℕ) (ns : List ℕ) → IsAmong m (ns ++ m ∷ [])
  added m [] = inl refl
  added m (k ∷ ks) = inr (added m ks)

  below_next : (n k : ℕ) → n < k + 1 → (n < k) ⊎ (n ≡ k)
  below_next n k l = grind arith

  pub chosen-more : (k : ℕ) (ns : List ℕ) → P k → AreChosen P k ns → AreChosen P (k + 1) (ns ++ k ∷ [])
  chosen-more k ns p h = record { each = λ n. (there n, back n) }
    where
      there : (n : ℕ) → IsAmong n (ns ++ k ∷ []) → (n < k + 1) × P n
      there n a = elim (last n k ns a) [
        | inl b ↦ let old : (n < k) × P n = (h.each n).0 b in (omega (arith, old.0), old.1)
        | inr e ↦ (omega (arith, e), subst P (sym e) p)
      ]

      back : (n : ℕ) → (n < k + 1) × P n → IsAmong n (ns ++ k ∷ [])
      back n q = elim (below_next n k q.0) [
        | inl l ↦ kept n k ns ((h.each n).1 (l, q.1))
        | inr e ↦ subst (λ m. IsAmong m (ns ++ k ∷ [])) (sym e) (added k ns)
      ]

  pub chosen-same : (k : ℕ) (ns : List ℕ) → ¬ P k → AreChosen P k ns → AreChosen P (k + 1) ns
  chosen-same k ns out h = record { each = λ n. (there n, back n) }
    where
      there : (n : ℕ) → IsAmong n ns → (n < k + 1) × P n
      there n a = let old : (n < k) × P n = (h.each n).0 a in (omega (arith, old.0), old.1)

      back : (n : ℕ) → (n < k + 1) × P n → IsAmong n ns
      back n q = elim (below_next n k q.0) [
        | inl l ↦ (h.each n).1 (l, q.1)
        | inr e ↦ absurd (out (subst P e q.1))
      ]

-- ---- what is shown

module _ (same : SameIsEqual) where
  -- in a list of different instances each has its place for its number
  own : (is : List Open) → AreDifferent is → (n : ℕ) → n < length is → number_in is (instance_at is n) ≡ Some n
  own [] d n l = absurd (omega (arith, l))
  own (t ∷ ts) d zero l = let e : same_type t t ≡ true = (same t t).1 refl in λ i. cond (e i) (Some 0) (option_map suc (number_in ts t))
  own (t ∷ ts) d (suc n) l = let at : n < length ts = omega (arith, l) in by (same_type (instance_at ts n) t) refl at (own ts d.1 n at)
    where
      by : (b : Bool) → same_type (instance_at ts n) t ≡ b → n < length ts → number_in ts (instance_at ts n) ≡ Some n → cond (same_type (instance_at ts n) t) (Some 0) (option_map suc (number_in ts (instance_at ts n))) ≡ Some (suc n)
      by true e at rest = absurd (d.0 (subst (λ u. IsOneOf u ts) ((same (instance_at ts n) t).0 e) (at-one ts n at)))
      by false e at rest = (λ i. cond (e i) (Some 0) (option_map suc (number_in ts (instance_at ts n)))) ∙ ap (option_map suc) rest

  module _ (none : SubstitutedNone) (ss : List DeclarationOf) (is : List Open) (are : AreInstances ss is) where
    own-number : (n : ℕ) → n < length is → HasNumber is (instance_at is n) n
    own-number n l = record { found = own is are.once n l; within = l; is_at = refl }

    row-among : (f : Open → List Open) (t u : Open) (n m : ℕ) → IsOneOf u (f t) → HasNumber is t n → HasNumber is u m → IsAmong m (targets_of (map (λ x. numbered is (f x)) is) n)
    row-among f t u n m o h k =
        subst (IsAmong m) (sym (of-number (λ x. numbered is (f x)) is n h.within ∙ ap (λ x. numbered is (f x)) h.is_at)) (found-among (number_in is) (f t) u m o k.found)

    -- of links that are those of the instances, and of their first
    module _ (all : Bool) (targets references : List (List ℕ)) (are_targets : targets ≡ inlining_of ss is) (are_references : references ≡ referring_of ss is) (first : List ℕ)
        (firsts : (n : ℕ) → IsAmong n first ↔ ((n < length is) × IsFirst ss all (instance_at is n))) where
      is-target : (n m : ℕ) → IsAmong m (targets_of targets n) → IsOneOf (instance_at is m) (targets_at ss (instance_at is n))
      is-target n m a = row-one same (targets_at ss) is is n m (subst (λ g. IsAmong m (targets_of g n)) are_targets a)

      is-reference : (n m : ℕ) → IsAmong m (targets_of references n) → IsOneOf (instance_at is m) (references_at ss (instance_at is n))
      is-reference n m a = row-one same (references_at ss) is is n m (subst (λ g. IsAmong m (targets_of g n)) are_references a)

      among-targets : (t u : Open) (n m : ℕ) → IsOneOf u (targets_at ss t) → HasNumber is t n → HasNumber is u m → IsAmong m (targets_of targets n)
      among-targets t u n m o h k = subst (λ g. IsAmong m (targets_of g n)) (sym are_targets) (row-among (targets_at ss) t u n m o h k)

      among-references : (t u : Open) (n m : ℕ) → IsOneOf u (references_at ss t) → HasNumber is t n → HasNumber is u m → IsAmong m (targets_of references n)
      among-references t u n m o h k = subst (λ g. IsAmong m (targets_of g n)) (sym are_references) (row-among (references_at ss) t u n m o h k)

      -- all are numbers of instances
      pub many : length targets ≡ length is
      many = ap length are_targets ∙ length-map is (λ t. numbered is (targets_at ss t))

      pub as-many : length references ≡ length targets
      as-many = ap length are_references ∙ length-map is (λ t. numbered is (references_at ss t)) ∙ sym many

      referred-within : (n m : ℕ) → IsAmong m (targets_of references n) → m < length is
      referred-within n m a = rows-within (references_at ss) is is n m (subst (λ g. IsAmong m (targets_of g n)) are_references a)

      pub first-there : (n : ℕ) → IsAmong n first → n < length targets
      first-there n a = subst (λ k. n < k) (sym many) ((firsts n).0 a).0

      pub targets-there : AreTargets targets
      targets-there n m a = subst (λ k. m < k) (sym many) (rows-within (targets_at ss) is is n m (subst (λ g. IsAmong m (targets_of g n)) are_targets a))

      pub references-there : (n m : ℕ) → IsAmong m (targets_of references n) → m < length targets
      references-there n m a = subst (λ k. m < k) (sym many) (referred-within n m a)

      to-shown : (n : ℕ) → IsNumberShown first targets references n → IsShown ss all (instance_at is n)
      to-shown n (numbers.shown_first k a) = let h : (k < length is) × IsFirst ss all (instance_at is k) = (firsts k).0 a in by (are.reached (instance_at is k) (at-one is k h.0)) h.1
        where
          by : IsReachable ss (instance_at is k) → IsFirst ss all (instance_at is k) → IsShown ss all (instance_at is k)
          by r (inl e) = link.shown_collected (instance_at is k) e r
          by r (inr d) = subst (IsShown ss all) (sym d.2) (link.shown_root d.0 d.1)
      to-shown n (numbers.shown_inline k m s a) = link.shown_inline (instance_at is k) (instance_at is m) (to-shown k s) (is-target k m a)
      to-shown n (numbers.shown_referred k m s a) = link.shown_referred (instance_at is k) (instance_at is m) (to-shown k s) (is-reference k m a)

      numbered-shown : (u : Open) → IsShown ss all u → (k : ℕ) × HasNumber is u k
      numbered-shown u s = with_number same is u (are.all u (shown-reachable none ss all u s))

      from-shown : (t : Open) → IsShown ss all t → (n : ℕ) → HasNumber is t n → IsNumberShown first targets references n
      from-shown t (link.shown_root d r) n h = numbers.shown_first n ((firsts n).1 (h.within, inr (d, r, h.is_at)))
      from-shown t (link.shown_collected u e r) n h = numbers.shown_first n ((firsts n).1 (h.within, inl e))
      from-shown t (link.shown_inline u w s o) n h =
          let m : (k : ℕ) × HasNumber is u k = numbered-shown u s in
          numbers.shown_inline m.0 n (from-shown u s m.0 m.1) (among-targets u w m.0 n o m.1 h)
      from-shown t (link.shown_referred u w s o) n h =
          let m : (k : ℕ) × HasNumber is u k = numbered-shown u s in
          numbers.shown_referred m.0 n (from-shown u s m.0 m.1) (among-references u w m.0 n o m.1 h)

      to-component : (n : ℕ) → IsNumberComponent first targets references n → IsComponent ss all (instance_at is n)
      to-component n (numbers.first_component k a) = let h : (k < length is) × IsFirst ss all (instance_at is k) = (firsts k).0 a in by (are.reached (instance_at is k) (at-one is k h.0)) h.1
        where
          by : IsReachable ss (instance_at is k) → IsFirst ss all (instance_at is k) → IsComponent ss all (instance_at is k)
          by r (inl e) = link.collected_component (instance_at is k) e r
          by r (inr d) = subst (IsComponent ss all) (sym d.2) (link.root_component d.0 d.1)
      to-component n (numbers.referred_component k m s a) = link.referred_component (instance_at is k) (instance_at is m) (to-shown k s) (is-reference k m a)

      from-component : (t : Open) → IsComponent ss all t → (n : ℕ) → HasNumber is t n → IsNumberComponent first targets references n
      from-component t (link.root_component d r) n h = numbers.first_component n ((firsts n).1 (h.within, inr (d, r, h.is_at)))
      from-component t (link.collected_component u e r) n h = numbers.first_component n ((firsts n).1 (h.within, inl e))
      from-component t (link.referred_component u w s o) n h =
          let m : (k : ℕ) × HasNumber is u k = numbered-shown u s in
          numbers.referred_component m.0 n (from-shown u s m.0 m.1) (among-references u w m.0 n o m.1 h)

      -- ---- what is found

      -- marks of the numbers that are shown are marks of the instances that are
      pub shown-marks : (marked : ℕ → Bool) → ((n : ℕ) → IsTrue (marked n) ↔ IsNumberShown first targets references n) → (n : ℕ) → n < length is → IsTrue (marked n) ↔ IsShown ss all (instance_at is n)
      shown-marks marked h n l = (λ m. to-shown n ((h n).0 m), λ s. (h n).1 (from-shown (instance_at is n) s n (own-number n l)))

      module _ (components : List ℕ) (found : (n : ℕ) → IsAmong n components ↔ IsNumberComponent first targets references n) where
        within-component : (n : ℕ) → IsNumberComponent first targets references n → n < length is
        within-component n (numbers.first_component k a) = ((firsts k).0 a).0
        within-component n (numbers.referred_component k m s a) = referred-within k m a

        pub components-within : (n : ℕ) → IsAmong n components → n < length is
        components-within n a = within-component n ((found n).0 a)

        -- an instance is that of one of the numbers
        one-at : (ns : List ℕ) (t : Open) → IsOneOf t (map (instance_at is) ns) → (n : ℕ) × IsAmong n ns × (t ≡ instance_at is n)
        one-at [] t o = absurd o
        one-at (k ∷ ks) t (inl e) = (k, inl refl, e)
        one-at (k ∷ ks) t (inr o) = let rest : (n : ℕ) × IsAmong n ks × (t ≡ instance_at is n) = one-at ks t o in (rest.0, inr rest.1, rest.2)

        at-number : (ns : List ℕ) (n : ℕ) → IsAmong n ns → IsOneOf (instance_at is n) (map (instance_at is) ns)
        at-number [] n a = absurd a
        at-number (k ∷ ks) n (inl e) = inl (ap (instance_at is) e)
        at-number (k ∷ ks) n (inr a) = inr (at-number ks n a)

        different : (ns : List ℕ) → AreOnce ns → ((n : ℕ) → IsAmong n ns → n < length is) → AreDifferent (map (instance_at is) ns)
        different [] o w = tt
        different (k ∷ ks) o w = (
          λ there. let n : (m : ℕ) × IsAmong m ks × (instance_at is k ≡ instance_at is m) = one-at ks (instance_at is k) there in
              let k_own : number_in is (instance_at is k) ≡ Some k = own is are.once k (w k (inl refl)) in
              let n_own : number_in is (instance_at is n.0) ≡ Some n.0 = own is are.once n.0 (w n.0 (inr n.1)) in
              let equal : n.0 ≡ k = same_Some n.0 k (sym n_own ∙ ap (number_in is) (sym n.2) ∙ k_own) in o.0 (subst (λ m. IsAmong m ks) equal n.1),
          different ks o.1 (λ m a. w m (inr a)),
        )

        pub are-components : AreOnce components → AreComponentsOf ss all (map (instance_at is) components)
        are-components once = record {
          once = different components once components-within;
          are = λ t o. let n : (m : ℕ) × IsAmong m components × (t ≡ instance_at is m) = one-at components t o in subst (IsComponent ss all) (sym n.2) (to-component n.0 ((found n.0).0 n.1));
          whole = λ t c. let n : (k : ℕ) × HasNumber is t k = numbered-shown t (component-shown none ss all t c) in
              subst (λ u. IsOneOf u (map (instance_at is) components)) n.1.is_at (at-number components n.0 ((found n.0).1 (from-component t c n.0 n.1)));
        }
