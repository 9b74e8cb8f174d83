-- The laws of `==` on types: its test holds of a type and itself, and of no two that differ.
use Rattle.std.proofs.Common.{◌≡◌, ℕ, true, ◌==◌, bytes_eq, Some, unwrap_or, refl, ap, ap₂, sym, subst, ◌∙◌, eq-eqb}
use Rattle.std.proofs.lemmas.Bool.{false≢true, eqb-true, and_parts, and_from}
use Rattle.std.proofs.lemmas.Slice.Eq.{bytes_eq-Decides}
use Rattle.std.specs.Bool.{Decides}
use Rattle.std.specs.Cmp.{IsEquivalence, IsPartialEquivalence, partial_equiv_from_equiv, decided}
use Rattle.std.specs.Ordering.{on}
use Rattle.std.proofs.lemmas.Cmp.{on_equiv}
use Rattle.leaves.specs.declared.leaf.Leaf.{Leaf}
use Rattle.leaves.specs.declared.leaf.Leaf.TheVariants as leaves
use Rattle.leaves.specs.Leaves.{leaf_of, name_of}
use Rattle.leaves.proofs.Laws.{named_leaf}
use Rattle.open_types.specs.declared.open_type.ListHead.{ListHead}
use Rattle.open_types.specs.declared.open_type.ListHead.TheVariants as lists
use Rattle.open_types.specs.declared.open_type.SetHead.{SetHead}
use Rattle.open_types.specs.declared.open_type.SetHead.TheVariants as sets
use Rattle.open_types.specs.declared.open_type.MapHead.{MapHead}
use Rattle.open_types.specs.declared.open_type.MapHead.TheVariants as maps
use Rattle.open_types.specs.declared.open_type.ThroughHead.{ThroughHead}
use Rattle.open_types.specs.declared.open_type.ThroughHead.TheVariants as throughs
use Rattle.open_types.specs.Open.{Open, Opens, leaf, any_value, free_object, unit, tuple, items, set, map_of, option, through, param, named, no_types, more_types, open_view}
use Rattle.open_types.specs.Same.{list_place, set_place, map_place, through_place, same_type, same_types}

-- ---- names

one_leaf : (x y : Leaf) → bytes_eq (name_of x) (name_of y) ≡ true → x ≡ y
one_leaf x y h =
    let same : Some x ≡ Some y = sym (named_leaf x) ∙ (ap leaf_of ((bytes_eq-Decides (name_of x) (name_of y)).0 h) ∙ named_leaf y) in
    ap (λ o. unwrap_or o x) same

one_list : (h k : ListHead) → (list_place h == list_place k) ≡ true → h ≡ k
one_list lists.Vec lists.Vec e = refl
one_list lists.LinkedList lists.LinkedList e = refl
one_list lists.SmallVec lists.SmallVec e = refl
one_list lists.Array lists.Array e = refl
one_list _ _ e = absurd (false≢true e)

one_set : (h k : SetHead) → (set_place h == set_place k) ≡ true → h ≡ k
one_set sets.BTreeSet sets.BTreeSet e = refl
one_set sets.HashSet sets.HashSet e = refl
one_set _ _ e = absurd (false≢true e)

one_map : (h k : MapHead) → (map_place h == map_place k) ≡ true → h ≡ k
one_map maps.HashMap maps.HashMap e = refl
one_map maps.BTreeMap maps.BTreeMap e = refl
one_map maps.Map maps.Map e = refl
one_map maps.IndexMap maps.IndexMap e = refl
one_map _ _ e = absurd (false≢true e)

one_through : (h k : ThroughHead) → (through_place h == through_place k) ≡ true → h ≡ k
one_through throughs.Cow throughs.Cow e = refl
one_through throughs.Box throughs.Box e = refl
one_through throughs.RefCell throughs.RefCell e = refl
one_through throughs.Arc throughs.Arc e = refl
one_through throughs.Rc throughs.Rc e = refl
one_through _ _ e = absurd (false≢true e)

-- ---- types

mutual
  one_type : (s t : Open) → same_type s t ≡ true → s ≡ t
  one_type (leaf x) (leaf y) e = ap leaf (one_leaf x y e)
  one_type any_value any_value e = refl
  one_type free_object free_object e = refl
  one_type unit unit e = refl
  one_type (tuple ts) (tuple us) e = ap tuple (all_one ts us e)
  one_type (items h t) (items k u) e = let p = and_parts _ _ e in ap₂ items (one_list h k p.0) (one_type t u p.1)
  one_type (set h t) (set k u) e = let p = and_parts _ _ e in ap₂ set (one_set h k p.0) (one_type t u p.1)
  one_type (map_of h s t) (map_of k u v) e = let p = and_parts _ _ e in let q = and_parts _ _ p.0 in ap (λ m. map_of m s t) (one_map h k q.0) ∙ ap₂ (map_of k) (one_type s u q.1) (one_type t v p.1)
  one_type (option t) (option u) e = ap option (one_type t u e)
  one_type (through h t) (through k u) e = let p = and_parts _ _ e in ap₂ through (one_through h k p.0) (one_type t u p.1)
  one_type (param i) (param j) e = ap param (eqb-true i j e)
  one_type (named d ts) (named k us) e = let p = and_parts _ _ e in ap₂ named (eqb-true d k p.0) (all_one ts us p.1)
  one_type _ _ e = absurd (false≢true e)

  all_one : (ts us : Opens) → same_types ts us ≡ true → ts ≡ us
  all_one no_types no_types e = refl
  all_one (more_types t ts) (more_types u us) e = let p = and_parts _ _ e in ap₂ more_types (one_type t u p.0) (all_one ts us p.1)
  all_one _ _ e = absurd (false≢true e)

itself : (n : ℕ) → (n == n) ≡ true
itself n = eq-eqb n n refl

mutual
  same_itself : (t : Open) → same_type t t ≡ true
  same_itself (leaf x) = (bytes_eq-Decides (name_of x) (name_of x)).1 refl
  same_itself any_value = refl
  same_itself free_object = refl
  same_itself unit = refl
  same_itself (tuple ts) = all_itself ts
  same_itself (items h t) = and_from _ _ (itself (list_place h)) (same_itself t)
  same_itself (set h t) = and_from _ _ (itself (set_place h)) (same_itself t)
  same_itself (map_of h s t) = and_from _ _ (and_from _ _ (itself (map_place h)) (same_itself s)) (same_itself t)
  same_itself (option t) = same_itself t
  same_itself (through h t) = and_from _ _ (itself (through_place h)) (same_itself t)
  same_itself (param i) = itself i
  same_itself (named d ts) = and_from _ _ (itself d) (all_itself ts)

  all_itself : (ts : Opens) → same_types ts ts ≡ true
  all_itself no_types = refl
  all_itself (more_types t ts) = and_from _ _ (same_itself t) (all_itself ts)

pub same_decides : (s t : Open) → Decides (same_type s t) (s ≡ t)
same_decides s t = (one_type s t, λ e. subst (λ u. same_type s u ≡ true) e (same_itself s))

pub views_equiv : IsEquivalence (on open_view same_type)
views_equiv = on_equiv open_view (decided same_type same_decides)

pub views_partial_equiv : IsPartialEquivalence (on open_view same_type)
views_partial_equiv = partial_equiv_from_equiv views_equiv
