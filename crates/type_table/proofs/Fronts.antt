-- Numbers and their types, where the list of types grows at its end.
use Rattle.std.proofs.Common.{ℕ, zero, suc, ◌<◌, ◌≤◌, List, [], ◌∷◌, ◌++◌, length, get_or, drop, ◌≡◌, refl, ap, sym, subst, ◌∙◌, arith}
use Rattle.std.proofs.lemmas.List.{append_assoc, append-nil, length-append}
use Rattle.open_types.specs.Open.{Open, Opens, leaf, any_value, free_object, unit, tuple, items, set, map_of, option, through, param, named, no_types, more_types, argument_at, open_view, opens_view, IsOverFirst, AreOverFirst, IsClosed, AreClosed}
use Rattle.open_types.specs.declared.open_type.OpenType.{OpenType}
use Rattle.type_table.specs.Types.{type_at, IsFront, types_at, AllBelow}
use Rattle.type_table.proofs.Tables.{type-stays, below-more}

pub within_front : (old new : List Open) (n : ℕ) → IsFront old new → n < length old → n < length new
within_front old new n f l = subst (λ ts. n < length ts) (sym f.1) (omega (arith, l, length-append old f.0))

pub type_front : (old new : List Open) (n : ℕ) → IsFront old new → n < length old → type_at new n ≡ type_at old n
type_front old new n f l = ap (λ ts. type_at ts n) f.1 ∙ type-stays old f.0 n l

pub below_front : (old new : List Open) (ns : List ℕ) → IsFront old new → AllBelow (length old) ns → AllBelow (length new) ns
below_front old new ns f h = below-more (length old) (length new) ns (subst (λ ts. length old ≤ length ts) (sym f.1) (omega (arith, length-append old f.0))) h

pub types_front : (old new : List Open) (ns : List ℕ) → IsFront old new → AllBelow (length old) ns → types_at new ns ≡ types_at old ns
types_front old new [] f h = refl
types_front old new (n ∷ ns) f h = λ k. more_types (type_front old new n f h.0 k) (types_front old new ns f h.1 k)

pub front_itself : (ts : List Open) → IsFront ts ts
front_itself ts = ([], sym (append-nil ts))

pub front_twice : (a b c : List Open) → IsFront a b → IsFront b c → IsFront a c
front_twice a b c f g = (f.0 ++ g.0, g.1 ∙ ap (λ ts. ts ++ g.0) f.1 ∙ append_assoc a f.0 g.0)

-- ---- arguments by number

pub argument_within : (bound : ℕ) (ns : List ℕ) (p y : ℕ) → AllBelow bound ns → p < length ns → get_or ns p y < bound
argument_within bound [] p y h l = absurd (omega (arith, l))
argument_within bound (n ∷ ns) zero y h l = h.0
argument_within bound (n ∷ ns) (suc p) y h l = argument_within bound ns p y h.1 (omega (arith, l))

pub argument_is : (known : List Open) (ns : List ℕ) (p y : ℕ) → p < length ns → type_at known (get_or ns p y) ≡ argument_at (types_at known ns) p
argument_is known [] p y l = absurd (omega (arith, l))
argument_is known (n ∷ ns) zero y l = refl
argument_is known (n ∷ ns) (suc p) y l = argument_is known ns p y (omega (arith, l))

-- ---- items by place

pub none_behind : (ts : List OpenType) → opens_view (drop (length ts) ts) ≡ no_types
none_behind [] = refl
none_behind (t ∷ ts) = none_behind ts

pub one_behind : (ts : List OpenType) (n : ℕ) (y : OpenType) → n < length ts → opens_view (drop n ts) ≡ more_types (open_view (get_or ts n y)) (opens_view (drop (suc n) ts))
one_behind [] n y l = absurd (omega (arith, l))
one_behind (t ∷ ts) zero y l = refl
one_behind (t ∷ ts) (suc n) y l = one_behind ts n y (omega (arith, l))

pub over_at : (m : ℕ) (ts : List OpenType) (n : ℕ) (y : OpenType) → n < length ts → AreOverFirst m (opens_view ts) → IsOverFirst m (open_view (get_or ts n y))
over_at m [] n y l h = absurd (omega (arith, l))
over_at m (t ∷ ts) zero y l h = h.0
over_at m (t ∷ ts) (suc n) y l h = over_at m ts n y (omega (arith, l)) h.1

pub over_item : (m : ℕ) (ts : List OpenType) (n : ℕ) (y : OpenType) → n < length ts → y ≡ get_or ts n y → AreOverFirst m (opens_view ts) → IsOverFirst m (open_view y)
over_item m ts n y l e h = subst (λ x. IsOverFirst m (open_view x)) (sym e) (over_at m ts n y l h)

-- ---- types without parameters

mutual
  pub closed_over : (n : ℕ) (t : Open) → IsClosed t → IsOverFirst n t
  closed_over n (leaf x) h = tt
  closed_over n any_value h = tt
  closed_over n free_object h = tt
  closed_over n unit h = tt
  closed_over n (tuple ts) h = all_closed_over n ts h
  closed_over n (items x t) h = closed_over n t h
  closed_over n (set x t) h = closed_over n t h
  closed_over n (map_of x k t) h = (closed_over n k h.0, closed_over n t h.1)
  closed_over n (option t) h = closed_over n t h
  closed_over n (through x t) h = closed_over n t h
  closed_over n (param i) h = absurd h
  closed_over n (named d ts) h = all_closed_over n ts h

  all_closed_over : (n : ℕ) (ts : Opens) → AreClosed ts → AreOverFirst n ts
  all_closed_over n no_types h = tt
  all_closed_over n (more_types t ts) h = (closed_over n t h.0, all_closed_over n ts h.1)
