-- Types that are entered, with the instances that stand in them.
use Rattle.std.proofs.Common.{ℕ, zero, suc, ◌<◌, ◌≤◌, ◌==◌, List, [], ◌∷◌, ◌++◌, length, map, min, set, Bool, true, false, Option, Some, None, ◌≡◌, refl, ap, sym, subst, ◌∙◌, ◌⊎◌, inl, inr, arith, length-append, append-nil, append_assoc}
use Rattle.std.proofs.lemmas.Bool.{false≢true, eqb-true, eq-eqb, cases_Bool}
use Rattle.std.proofs.lemmas.List.{get_or-set_same, get_or-set_other, map-append}
use Rattle.std.proofs.lemmas.Option.{none-some, same_Some}
use Rattle.std.proofs.Math.ListN.{length-set}
use Rattle.open_types.specs.Open.{Open, named}
use Rattle.open_types.specs.Instances.{StandsIn, StandsInOne, declared_place, type_size}
use Rattle.type_table.specs.Types.{type_at, AllBelow, AreApart, IsInstance, StandsByParts, declaration_of, parts_of}
use Rattle.type_table.proofs.Laws.{below-push}
use Rattle.shapes.specs.Declarations.{DeclarationOf}
use Rattle.shapes.specs.InstanceShape.{IsReachable}
use Rattle.instances.specs.Lists.{IsOneOf, AreDifferent}
use Rattle.instances.specs.Entering.{IsMarked, IsAmong, IsLonger, AreHeld, AreEntered}
use Rattle.instances.proofs.Laws.{one-left, one-right, one-either}

-- the number behind one, where it is there
abbrev pub after : Option ℕ → ℕ
after None = 0
after (Some n) = suc n

-- an instance stands in itself
pub instance-stands : (t : Open) (place : ℕ) → declaration_of t ≡ Some place → StandsIn t t × (declared_place t ≡ place)
instance-stands (named d ts) place e = (inl refl, same_Some d place e)
instance-stands _ place e = absurd (none-some place e)

-- a size that is counted no further than a bound
pub counted : (size bound most : ℕ) → min size bound ≤ most → most < bound → size ≤ most
counted size bound most l k = omega (arith, l, k)

-- ---- lists

-- what holds of an item, and of each of the others, holds of all
pub each-cons : (P : Open → Type 0) (t : Open) (is : List Open) → P t → ((u : Open) → IsOneOf u is → P u) → (u : Open) → IsOneOf u (t ∷ is) → P u
each-cons P t is p f u (inl e) = subst P (sym e) p
each-cons P t is p f u (inr o) = f u o

pub stands-either : (u : Open) (xs ys : List Open) → StandsInOne u (xs ++ ys) → StandsInOne u xs ⊎ StandsInOne u ys
stands-either u [] ys s = inr s
stands-either u (x ∷ xs) ys (inl s) = inl (inl s)
stands-either u (x ∷ xs) ys (inr s) = by (stands-either u xs ys s)
  where
    by : StandsInOne u xs ⊎ StandsInOne u ys → StandsInOne u (x ∷ xs) ⊎ StandsInOne u ys
    by (inl p) = inl (inr p)
    by (inr p) = inr p

different-push : (is : List Open) (t : Open) → AreDifferent is → ¬ IsOneOf t is → AreDifferent (is ++ t ∷ [])
different-push [] t d n = ((λ h. h), tt)
different-push (x ∷ xs) t d n = ((λ o. by (one-either x xs (t ∷ []) o)), different-push xs t d.1 (λ o. n (inr o)))
  where
    by : IsOneOf x xs ⊎ IsOneOf x (t ∷ []) → ⊥
    by (inl o) = d.0 o
    by (inr (inl e)) = n (inl (sym e))
    by (inr (inr o)) = o

-- ---- numbers

pub among-of : (f : ℕ → Open) (ns : List ℕ) (t : Open) → IsOneOf t (map f ns) → (n : ℕ) × IsAmong n ns × (t ≡ f n)
among-of f [] t o = absurd o
among-of f (n ∷ ns) t (inl e) = (n, inl refl, e)
among-of f (n ∷ ns) t (inr o) = let h = among-of f ns t o in (h.0, inr h.1, h.2)

pub below-among : (bound : ℕ) (ns : List ℕ) (n : ℕ) → AllBelow bound ns → IsAmong n ns → n < bound
below-among bound [] n h a = absurd a
below-among bound (m ∷ ms) n h (inl e) = subst (λ k. k < bound) (sym e) h.0
below-among bound (m ∷ ms) n h (inr a) = below-among bound ms n h.1 a

among-either : (n : ℕ) (ns : List ℕ) (m : ℕ) → IsAmong n (ns ++ m ∷ []) → IsAmong n ns ⊎ (n ≡ m)
among-either n [] m (inl e) = inr e
among-either n [] m (inr a) = absurd a
among-either n (k ∷ ns) m (inl e) = inl (inl e)
among-either n (k ∷ ns) m (inr a) = by (among-either n ns m a)
  where
    by : IsAmong n ns ⊎ (n ≡ m) → IsAmong n (k ∷ ns) ⊎ (n ≡ m)
    by (inl p) = inl (inr p)
    by (inr p) = inr p

pub longer-itself : (is : List ℕ) → IsLonger is is
longer-itself is = ([], sym (append-nil is))

pub longer-twice : (a b c : List ℕ) → IsLonger a b → IsLonger b c → IsLonger a c
longer-twice a b c f g = (f.0 ++ g.0, g.1 ∙ ap (λ ts. ts ++ g.0) f.1 ∙ append_assoc a f.0 g.0)

-- ---- marks

pub marked-within : (marks : List Bool) (n : ℕ) → IsMarked marks n → n < length marks
marked-within [] n m = absurd (false≢true m)
marked-within (b ∷ bs) zero m = omega arith
marked-within (b ∷ bs) (suc n) m = let l = marked-within bs n m in omega (arith, l)

module _ (marks : List Bool) (id : ℕ) (within : id < length marks) where
  mark-set : IsMarked (set marks id true) id
  mark-set = get_or-set_same marks id true false within

  mark-kept : (n : ℕ) → IsMarked marks n → IsMarked (set marks id true) n
  mark-kept n m = by (cases_Bool (n == id))
    where
      by : ((n == id) ≡ true) ⊎ ((n == id) ≡ false) → IsMarked (set marks id true) n
      by (inl e) = subst (IsMarked (set marks id true)) (sym (eqb-true n id e)) mark-set
      by (inr e) = get_or-set_other marks id n true false (λ q. false≢true (sym e ∙ eq-eqb n id q)) ∙ m

  mark-new : (n : ℕ) → IsMarked (set marks id true) n → (n ≡ id) ⊎ IsMarked marks n
  mark-new n m = by (cases_Bool (n == id))
    where
      by : ((n == id) ≡ true) ⊎ ((n == id) ≡ false) → (n ≡ id) ⊎ IsMarked marks n
      by (inl e) = inl (eqb-true n id e)
      by (inr e) = inr (sym (get_or-set_other marks id n true false (λ q. false≢true (sym e ∙ eq-eqb n id q))) ∙ m)

-- ---- what is entered

module _ (ss : List DeclarationOf) (limit most : ℕ) where
  -- ---- one type more

  module _ (by-parts : StandsByParts) (known : List Open) (marks : List Bool) (is : List ℕ) (entered : AreEntered ss known limit most marks is) (id : ℕ) (within : id < length known) (room : length marks ≡ length known) (parts : AreHeld (parts_of (type_at known id)) (map (type_at known) is)) where
    id-marks : id < length marks
    id-marks = subst (λ n. id < n) (sym room) within

    set-room : length (set marks id true) ≡ length marks
    set-room = length-set marks id true

    -- an instance
    module _ (apart : AreApart known) (fresh : ¬ IsMarked marks id) (reached : IsReachable ss (type_at known id)) where
      abbrev t : Open
      t = type_at known id

      pub new-instance : ¬ IsOneOf t (map (type_at known) is)
      new-instance o =
          let h = among-of (type_at known) is t o in
          let l : h.0 < length known = below-among (length known) is h.0 entered.below h.1 in
          let e : id ≡ h.0 = apart id h.0 within l h.2 in
          fresh (subst (IsMarked marks) (sym e) (entered.held h.0 h.1))

      module _ (more : length is < limit) (size : type_size t ≤ most) where
        abbrev js : List ℕ
        js = is ++ id ∷ []

        grown : map (type_at known) js ≡ map (type_at known) is ++ t ∷ []
        grown = map-append (type_at known) is (id ∷ [])

        old-one : (u : Open) → IsOneOf u (map (type_at known) is) → IsOneOf u (map (type_at known) js)
        old-one u o = subst (IsOneOf u) (sym grown) (one-left u (map (type_at known) is) (t ∷ []) o)

        new-one : (u : Open) → u ≡ t → IsOneOf u (map (type_at known) js)
        new-one u e = subst (IsOneOf u) (sym grown) (one-right u (map (type_at known) is) (t ∷ []) (inl e))

        -- what holds of those that were there, and of the new one, holds of all
        each-one : (P : Open → Type 0) → ((u : Open) → IsOneOf u (map (type_at known) is) → P u) → P t → (u : Open) → IsOneOf u (map (type_at known) js) → P u
        each-one P f p u o = by (one-either u (map (type_at known) is) (t ∷ []) (subst (IsOneOf u) grown o))
          where
            by : IsOneOf u (map (type_at known) is) ⊎ IsOneOf u (t ∷ []) → P u
            by (inl a) = f u a
            by (inr (inl e)) = subst P (sym e) p
            by (inr (inr a)) = absurd a

        instance-held : (u : Open) → StandsIn u t → IsOneOf u (map (type_at known) js)
        instance-held u s = by ((by-parts u t).0 s)
          where
            by : ((u ≡ t) × IsInstance t) ⊎ StandsInOne u (parts_of t) → IsOneOf u (map (type_at known) js)
            by (inl h) = new-one u h.0
            by (inr h) = old-one u (parts u h)

        instance-closed : (n : ℕ) → IsMarked (set marks id true) n → (u : Open) → StandsIn u (type_at known n) → IsOneOf u (map (type_at known) js)
        instance-closed n m u s = by (mark-new marks id id-marks n m)
          where
            by : (n ≡ id) ⊎ IsMarked marks n → IsOneOf u (map (type_at known) js)
            by (inl e) = instance-held u (subst (λ k. StandsIn u (type_at known k)) e s)
            by (inr h) = old-one u (entered.closed n h u s)

        all-marked : (n : ℕ) → IsAmong n js → IsMarked (set marks id true) n
        all-marked n a = by (among-either n is id a)
          where
            by : IsAmong n is ⊎ (n ≡ id) → IsMarked (set marks id true) n
            by (inl h) = mark-kept marks id id-marks n (entered.held n h)
            by (inr e) = subst (IsMarked (set marks id true)) (sym e) (mark-set marks id id-marks)

        pub entered-instance : AreEntered ss known limit most (set marks id true) js
        entered-instance = record {
          room = omega (arith, set-room, entered.room);
          below = below-push (length known) is id entered.below within;
          closed = instance-closed;
          held = all-marked;
          different = subst AreDifferent (sym grown) (different-push (map (type_at known) is) t entered.different new-instance);
          reached = each-one (IsReachable ss) entered.reached reached;
          few = omega (arith, more, length-append is (id ∷ []));
          small = each-one (λ u. type_size u ≤ most) entered.small size;
        }
