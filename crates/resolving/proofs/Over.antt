-- The declarations that stand in a resolved type, and their arguments.
use Rattle.std.proofs.Common.{◌≡◌, ◌<◌, ◌≤◌, ℕ, zero, suc, List, [], ◌∷◌, ◌++◌, arith, Bool, true, false, cond, Option, Some, None, option_map, option_and_then, bytes_eq, codes, refl, subst}
use Rattle.std.proofs.lemmas.Option.{none-some, same_Some}
use Rattle.leaves.specs.declared.leaf.Leaf.{Leaf}
use Rattle.leaves.specs.Leaves.{leaf_of}
use Rattle.texts.specs.declared.span.Span.{Span}
use Rattle.texts.proofs.Laws.{mapped, and_then}
use Rattle.written_types.specs.Written.{Written, Writtens, WrittenPath, Segments, Segment, Arguments, path, reference, tuple, slice, array, trait_object, no_types, more_types, path_of, no_segments, more_segments, plain, applied, no_arguments, more_arguments, lifetime_argument, constant_argument, type_argument}
use Rattle.open_types.specs.declared.open_type.ListHead.TheVariants as lists
use Rattle.open_types.specs.Open.{Open, Opens, opens_of}
use Rattle.open_types.specs.Open as types
use Rattle.open_types.specs.Heads.{container_of}
use Rattle.open_types.specs.declared.head.Head.{Head}
use Rattle.open_types.specs.declared.head.Head.TheVariants as heads
use Rattle.resolving.specs.Known.{Known}
use Rattle.resolving.specs.declared.meaning.Meaning.{Meaning}
use Rattle.resolving.specs.declared.meaning.Meaning.TheVariants as meanings
use Rattle.resolving.specs.Names.{nameless, where_none, ident_of, own_or_unknown, declared_or_unknown, parameter_or, other_meaning, leaf_or, container_or, name_meaning, written_meaning, alias_or, meaning, is_constant_type}
use Rattle.resolving.specs.Resolved.{small_list, of_one, of_two, contained, alone, first_parameters, own_type, meant, tuple_of, type_of, path_type, last_type, segment_type, argument_types, all_types}
use Rattle.open_types.specs.Within.{IsOver, AreOver}
use Rattle.resolving.proofs.Right.{not_bad}
use Rattle.resolving.proofs.Taken.{taken, declared-cases}
use Rattle.resolving.specs.Bad.{are_bad}
use Rattle.resolving.specs.Free.{declared_with}

module _ (p : Known) (n : ℕ) where
  abbrev parameters : ℕ → ℕ
  parameters = p.parameters_at

  abbrev IsTypeOver : Open → Type 0
  IsTypeOver t = IsOver n parameters p.parameters t

  abbrev AreTypesOver : Opens → Type 0
  AreTypesOver ts = AreOver n parameters p.parameters ts

  -- ---- with arguments that are over

  small-over : (t u : Open) → IsTypeOver t → small_list t ≡ Some u → IsTypeOver u
  small-over (types.items lists.Array t) u w e = subst IsTypeOver (same_Some (types.items lists.SmallVec t) u e) w
  small-over (types.items lists.Vec t) u w e = absurd (none-some u e)
  small-over (types.items lists.LinkedList t) u w e = absurd (none-some u e)
  small-over (types.items lists.SmallVec t) u w e = absurd (none-some u e)
  small-over (types.leaf x) u w e = absurd (none-some u e)
  small-over types.any_value u w e = absurd (none-some u e)
  small-over types.free_object u w e = absurd (none-some u e)
  small-over types.unit u w e = absurd (none-some u e)
  small-over (types.tuple ts) u w e = absurd (none-some u e)
  small-over (types.set h t) u w e = absurd (none-some u e)
  small-over (types.map_of h k t) u w e = absurd (none-some u e)
  small-over (types.option t) u w e = absurd (none-some u e)
  small-over (types.through h t) u w e = absurd (none-some u e)
  small-over (types.param i) u w e = absurd (none-some u e)
  small-over (types.named d ts) u w e = absurd (none-some u e)

  one-over : (h : Head) (t u : Open) → IsTypeOver t → of_one h t ≡ Some u → IsTypeOver u
  one-over (heads.List lists.Vec) t u w e = subst IsTypeOver (same_Some (types.items lists.Vec t) u e) w
  one-over (heads.List lists.LinkedList) t u w e = subst IsTypeOver (same_Some (types.items lists.LinkedList t) u e) w
  one-over (heads.List lists.SmallVec) t u w e = small-over t u w e
  one-over (heads.List lists.Array) t u w e = subst IsTypeOver (same_Some (types.items lists.Array t) u e) w
  one-over (heads.Set h) t u w e = subst IsTypeOver (same_Some (types.set h t) u e) w
  one-over (heads.Map h) t u w e = absurd (none-some u e)
  one-over heads.Option t u w e = subst IsTypeOver (same_Some (types.option t) u e) w
  one-over (heads.Through h) t u w e = subst IsTypeOver (same_Some (types.through h t) u e) w

  two-over : (h : Head) (k t u : Open) → IsTypeOver k → IsTypeOver t → of_two h k t ≡ Some u → IsTypeOver u
  two-over (heads.List h) k t u v w e = absurd (none-some u e)
  two-over (heads.Set h) k t u v w e = absurd (none-some u e)
  two-over (heads.Map h) k t u v w e = subst IsTypeOver (same_Some (types.map_of h k t) u e) (v, w)
  two-over heads.Option k t u v w e = absurd (none-some u e)
  two-over (heads.Through h) k t u v w e = absurd (none-some u e)

  contained-over : (h : Head) (ts : Opens) (u : Open) → AreTypesOver ts → contained h ts ≡ Some u → IsTypeOver u
  contained-over h types.no_types u w e = absurd (none-some u e)
  contained-over h (types.more_types t types.no_types) u w e = one-over h t u w.0 e
  contained-over h (types.more_types k (types.more_types t types.no_types)) u w e = two-over h k t u w.0 w.1.0 e
  contained-over h (types.more_types k (types.more_types t (types.more_types v vs))) u w e = absurd (none-some u e)

  alone-over : (a : Open) (ts : Opens) (u : Open) → IsTypeOver a → alone a ts ≡ Some u → IsTypeOver u
  alone-over a types.no_types u w e = subst IsTypeOver (same_Some a u e) w
  alone-over a (types.more_types t ts) u w e = absurd (none-some u e)

  abbrev IsBelow : Meaning → Type 0
  IsBelow (meanings.Declared d) = d < n
  IsBelow (meanings.Own d) = d < n
  IsBelow (meanings.Parameter i) = i < p.parameters
  IsBelow (meanings.Container h) = Unit {0}
  IsBelow (meanings.Leaf x) = Unit {0}
  IsBelow meanings.Value = Unit {0}
  IsBelow meanings.Object = Unit {0}
  IsBelow meanings.Alias = Unit {0}
  IsBelow meanings.Unknown = Unit {0}

  declared-over : (d : ℕ) (ts : Opens) (u : Open) → d < n → AreTypesOver ts → declared_with p d ts ≡ Some u → IsTypeOver u
  declared-over d ts u b w e = let t = taken p d ts u e in subst IsTypeOver t.1 (declared-cases IsTypeOver d ts tt (b, t.0, w))

  more-over : (ts : List Open) (t : Open) → AreTypesOver (opens_of ts) → IsTypeOver t → AreTypesOver (opens_of (ts ++ t ∷ []))
  more-over [] t w v = (v, tt)
  more-over (u ∷ ts) t w v = (w.0, more-over ts t w.1 v)

  parameters-over : (k : ℕ) → k ≤ p.parameters → AreTypesOver (opens_of (first_parameters k))
  parameters-over zero l = tt
  parameters-over (suc k) l = more-over (first_parameters k) (types.param k) (parameters-over k (omega (arith, l))) (omega (arith, l))

  own-over : (d : ℕ) (ts : Opens) (u : Open) → d < n → own_type p d ts ≡ Some u → IsTypeOver u
  own-over d types.no_types u b e = declared-over d (opens_of (first_parameters p.parameters)) u b (parameters-over p.parameters (omega arith)) e
  own-over d (types.more_types t ts) u b e = absurd (none-some u e)

  meant-over : (m : Meaning) (ts : Opens) (u : Open) → IsBelow m → AreTypesOver ts → meant p m ts ≡ Some u → IsTypeOver u
  meant-over (meanings.Container h) ts u b w e = contained-over h ts u w e
  meant-over (meanings.Leaf x) ts u b w e = alone-over (types.leaf x) ts u tt e
  meant-over meanings.Value ts u b w e = alone-over types.any_value ts u tt e
  meant-over meanings.Object ts u b w e = alone-over types.free_object ts u tt e
  meant-over (meanings.Parameter i) ts u b w e = alone-over (types.param i) ts u b e
  meant-over (meanings.Declared d) ts u b w e = declared-over d ts u b w e
  meant-over (meanings.Own d) ts u b w e = own-over d ts u b e
  meant-over meanings.Alias ts u b w e = absurd (none-some u e)
  meant-over meanings.Unknown ts u b w e = absurd (none-some u e)

  -- ---- names whose places are below

  module _ (below : (name : List ℕ) (d : ℕ) → p.place_of name ≡ Some d → d < n) (itself : (d : ℕ) → p.own ≡ Some d → d < n)
      (within : (name : List ℕ) (i : ℕ) → p.parameter_of name ≡ Some i → i < p.parameters) where
    by_test : (b : Bool) (m k : Meaning) → IsBelow m → IsBelow k → IsBelow (cond b m k)
    by_test true m k f g = f
    by_test false m k f g = g

    declared-below : (o : Option ℕ) → ((d : ℕ) → o ≡ Some d → d < n) → IsBelow (declared_or_unknown o)
    declared-below None h = tt
    declared-below (Some d) h = h d refl

    own-below : (o : Option ℕ) → ((d : ℕ) → o ≡ Some d → d < n) → IsBelow (own_or_unknown o)
    own-below None h = tt
    own-below (Some d) h = h d refl

    parameter-below : (o : Option ℕ) (m : Meaning) → ((i : ℕ) → o ≡ Some i → i < p.parameters) → IsBelow m → IsBelow (parameter_or o m)
    parameter-below None m h g = g
    parameter-below (Some i) m h g = h i refl

    leaf-below : (o : Option Leaf) (m : Meaning) → IsBelow m → IsBelow (leaf_or o m)
    leaf-below None m h = h
    leaf-below (Some x) m h = tt

    name-below : (k : List ℕ) → IsBelow (name_meaning p k)
    name-below k =
        leaf-below (leaf_of k) (other_meaning p k)
        (by_test (bytes_eq k (codes "Value")) meanings.Value _ tt (by_test (bytes_eq k (codes "Object")) meanings.Object _ tt (by_test (bytes_eq k (codes "Self")) (own_or_unknown p.own) _ (own-below p.own itself) (parameter-below (p.parameter_of k) (declared_or_unknown (p.place_of k)) (within k) (declared-below (p.place_of k) (below k))))))

    container-below : (o : Option Head) (m : Meaning) → IsBelow m → IsBelow (container_or o m)
    container-below None m h = h
    container-below (Some x) m h = tt

    written-below : (s : Segment) → IsBelow (written_meaning p s)
    written-below (plain x) = name-below x.text
    written-below (applied x args) = container-below (container_of x.text) (name_meaning p x.text) (name-below x.text)

    alias-below : (o : Option Written) (m : Meaning) → IsBelow m → IsBelow (alias_or o m)
    alias-below None m h = h
    alias-below (Some t) m h = tt

    meaning-below : (s : Segment) → IsBelow (meaning p s)
    meaning-below s = alias-below (p.alias_of (ident_of s).text) (written_meaning p s) (written-below s)

    -- ---- types

    cons-over : (o : Option Open) (r : Option Opens) (ts : Opens) → option_and_then (λ u. option_map (types.more_types u) r) o ≡ Some ts → ((u : Open) → o ≡ Some u → IsTypeOver u) → ((us : Opens) → r ≡ Some us → AreTypesOver us) → AreTypesOver ts
    cons-over None r ts e f g = absurd (none-some ts e)
    cons-over (Some u) None ts e f g = absurd (none-some ts e)
    cons-over (Some u) (Some us) ts e f g = subst AreTypesOver (same_Some (types.more_types u us) ts e) (f u refl, g us refl)

    skip-over : (b : Bool) (o : Option Open) (r : Option Opens) (ts : Opens) → cond b r (option_and_then (λ u. option_map (types.more_types u) r) o) ≡ Some ts → ((u : Open) → o ≡ Some u → IsTypeOver u) → ((us : Opens) → r ≡ Some us → AreTypesOver us) →
        AreTypesOver ts
    skip-over true o r ts e f g = g ts e
    skip-over false o r ts e f g = cons-over o r ts e f g

    tuple-over : (ts : Opens) → AreTypesOver ts → IsTypeOver (tuple_of ts)
    tuple-over types.no_types w = tt
    tuple-over (types.more_types t ts) w = w

    last_cases : (s : Segment) (rest : Segments) (u : Open) → where_none rest (segment_type p s) (last_type p rest) ≡ Some u → (last_type p rest ≡ Some u → IsTypeOver u) → (segment_type p s ≡ Some u → IsTypeOver u) → IsTypeOver u
    last_cases s no_segments u e later here = here e
    last_cases s (more_segments t ts) u e later here = later e

    path_cases : (ss : Segments) (s : Span) (u : Open) → where_none ss (meant p (meaning p (nameless s)) types.no_types) (last_type p ss) ≡ Some u → (last_type p ss ≡ Some u → IsTypeOver u) → IsTypeOver u
    path_cases no_segments s u e later = meant-over (meaning p (nameless s)) types.no_types u (meaning-below (nameless s)) tt e
    path_cases (more_segments t ts) s u e later = later e

    mutual
      pub type_over : (w : Written) (u : Open) → type_of p w ≡ Some u → IsTypeOver u
      type_over (path q) u e = path_over q u e
      type_over (reference w) u e = type_over w u e
      type_over (tuple ws s) u e = let m = mapped tuple_of (all_types p ws) u e in subst IsTypeOver m.2 (tuple-over m.0 (types_over ws m.0 m.1))
      type_over (slice w s) u e = let m = mapped (types.items lists.Array) (type_of p w) u e in subst IsTypeOver m.2 (type_over w m.0 m.1)
      type_over (array w s) u e = let m = mapped (types.items lists.Array) (type_of p w) u e in subst IsTypeOver m.2 (type_over w m.0 m.1)
      type_over (trait_object q s) u e = path_over q u e

      path_over : (q : WrittenPath) (u : Open) → path_type p q ≡ Some u → IsTypeOver u
      path_over (path_of leading ss s) u e = path_cases ss s u e (last_over ss u)

      last_over : (ss : Segments) (u : Open) → last_type p ss ≡ Some u → IsTypeOver u
      last_over no_segments u e = absurd (none-some u e)
      last_over (more_segments s rest) u e = last_cases s rest u e (last_over rest u) (segment_over s u)

      segment_over : (s : Segment) (u : Open) → segment_type p s ≡ Some u → IsTypeOver u
      segment_over (plain x) u e = meant-over (meaning p (plain x)) types.no_types u (meaning-below (plain x)) tt e
      segment_over (applied x args) u e =
          let good = not_bad (are_bad p (applied x args)) (option_and_then (meant p (meaning p (applied x args))) (argument_types p args)) u e in
          let found = and_then (meant p (meaning p (applied x args))) (argument_types p args) u good.1 in
          meant-over (meaning p (applied x args)) found.0 u (meaning-below (applied x args)) (arguments_over args found.0 found.1) found.2

      arguments_over : (args : Arguments) (ts : Opens) → argument_types p args ≡ Some ts → AreTypesOver ts
      arguments_over no_arguments ts e = subst AreTypesOver (same_Some types.no_types ts e) tt
      arguments_over (more_arguments (lifetime_argument x) rest) ts e = arguments_over rest ts e
      arguments_over (more_arguments (constant_argument c) rest) ts e = arguments_over rest ts e
      arguments_over (more_arguments (type_argument w) rest) ts e = skip-over (is_constant_type p w) (type_of p w) (argument_types p rest) ts e (type_over w) (arguments_over rest)

      types_over : (ws : Writtens) (ts : Opens) → all_types p ws ≡ Some ts → AreTypesOver ts
      types_over no_types ts e = subst AreTypesOver (same_Some types.no_types ts e) tt
      types_over (more_types w ws) ts e = cons-over (type_of p w) (all_types p ws) ts e (type_over w) (types_over ws)
