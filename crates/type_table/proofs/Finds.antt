-- Types that are looked up by their parts.
use Rattle.std.proofs.Common.{ℕ, zero, suc, get_or, ap, ◌∙◌, ◌<◌, ◌≤◌, List, [], ◌∷◌, length, drop, Option, Some, None, ◌≡◌, sym, subst, refl, arith}
use Rattle.open_types.specs.declared.open_type.OpenType.{OpenType}
use Rattle.open_types.specs.Open.{Open, Opens, tuple, param, more_types, IsClosed, open_view, opens_view}
use Rattle.type_table.specs.Nodes.{IsTuple, items_of}
use Rattle.type_table.proofs.Fronts.{one_behind}
use Rattle.type_table.specs.Types.{type_at, IsAmongFirst, AreAmongFirst, IsFound, found, missing, parts_of, AreDistinctTypes}

-- the items from a place on are the one there, and those behind it
pub chained : (all : List OpenType) (n left : ℕ) (y : OpenType) → n < length all → left ≡ suc n → y ≡ get_or all n y → opens_view (drop n all) ≡ more_types (open_view y) (opens_view (drop left all))
chained all n left y at some e = one_behind all n y at ∙ (λ i. more_types (open_view (sym e i)) (opens_view (drop (sym some i) all)))

module _ (known : List Open) where
  pub found_within : (t : Open) (n : ℕ) → IsFound known t (Some n) → n < length known
  found_within t n (found _ l e) = l

  pub found_is : (t : Open) (n : ℕ) → IsFound known t (Some n) → type_at known n ≡ t
  found_is t n (found _ l e) = e

  pub found_tuple : (ts : Opens) (n : ℕ) → IsFound known (tuple ts) (Some n) → IsTuple (type_at known n)
  found_tuple ts n (found _ l e) = subst IsTuple (sym e) tt

  -- a type made of a part that is found is looked up by the part's number
  pub found_part : (f : Open → Open) (t part : Open) (n : ℕ) (r : Option ℕ) → IsFound known part (Some n) → t ≡ f part → IsFound known (f (type_at known n)) r → IsFound known t r
  found_part f t part n r h e whole = subst (λ u. IsFound known u r) (ap f (found_is part n h) ∙ sym e) whole

  -- the tuple of the items from a place on, by the numbers of its first item and of the tuple behind it
  pub chain_is : (all : List OpenType) (n left : ℕ) (y : OpenType) (first list : ℕ) → n < length all → left ≡ suc n → y ≡ get_or all n y →
      IsFound known (open_view y) (Some first) → IsFound known (tuple (opens_view (drop left all))) (Some list) → tuple (more_types (type_at known first) (items_of (type_at known list))) ≡ tuple (opens_view (drop n all))
  chain_is all n left y first list at some e h k =
      (λ i. tuple (more_types (found_is (open_view y) first h i) (items_of (found_is (tuple (opens_view (drop left all))) list k i)))) ∙ sym (ap tuple (chained all n left y at some e))

  pub not-listed : (t : Open) → IsFound known t None → ¬ IsAmongFirst known (length known) t
  not-listed t (missing m) = m

  -- a type whose part is missing is missing too
  module _ (distinct : AreDistinctTypes known) where
    listed-parts : (t : Open) → IsAmongFirst known (length known) t → AreAmongFirst known (length known) (parts_of t)
    listed-parts t s = subst (λ u. AreAmongFirst known (length known) (parts_of u)) s.2 (wider (parts_of (type_at known s.0)) (distinct.parts s.0 s.1))
      where
        wider : (us : List Open) → AreAmongFirst known s.0 us → AreAmongFirst known (length known) us
        wider [] h = tt
        wider (u ∷ us) h = let below : h.0.0 < s.0 = h.0.1 in ((h.0.0, omega (arith, below, s.1), h.0.2), wider us h.1)

    pub missing_first : (t part : Open) (us : List Open) → parts_of t ≡ part ∷ us → IsFound known part None → IsFound known t None
    missing_first t part us e m = missing (λ s. not-listed part m (subst (AreAmongFirst known (length known)) e (listed-parts t s)).0)

    pub missing_second : (t first part : Open) (us : List Open) → parts_of t ≡ first ∷ part ∷ us → IsFound known part None → IsFound known t None
    missing_second t first part us e m = missing (λ s. not-listed part m (subst (AreAmongFirst known (length known)) e (listed-parts t s)).1.0)

    -- no parameter is a type of the list
    pub missing_param : (i : ℕ) → IsFound known (param i) None
    missing_param i = missing (λ s. subst IsClosed s.2 (distinct.closed s.0 s.1))

    pub missing_behind : (ts : List OpenType) (n : ℕ) → n ≤ length ts → IsFound known (tuple (opens_view (drop n ts))) None → IsFound known (tuple (opens_view ts)) None
    missing_behind ts zero l m = m
    missing_behind [] (suc n) l m = absurd (omega (arith, l))
    missing_behind (t ∷ ts) (suc n) l m =
        missing_second (tuple (more_types (open_view t) (opens_view ts))) (open_view t) (tuple (opens_view ts)) [] refl (missing_behind ts n (omega (arith, l)) m)
