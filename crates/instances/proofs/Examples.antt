-- Small sources, computed: lists of instances, and types that fit or do not.
use Rattle.std.proofs.Common.{ℕ, zero, suc, ◌<◌, List, [], ◌∷◌, Some, None, true, false, codes, ◌≡◌, refl, sym, subst, inl, inr, arith}
use Rattle.open_types.specs.Open.{Open, Opens, any_value, free_object, param, named, no_types, more_types}
use Rattle.open_types.specs.Instances.{StandsInOne}
use Rattle.shapes.specs.Declarations.{alone, named_fields, fields, DeclarationOf, unannotated, AreFitting}
use Rattle.shapes.specs.Instances.{places_at}
use Rattle.shapes.specs.InstanceShape.{IsRoot, IsReachable, root, stands}
use Rattle.instances.specs.Lists.{IsOneOf, number_in, AreDifferent, AreInstances}
use Rattle.instances.specs.Fitting.{IsFit, AreAllClosed}
use Rattle.instances.proofs.Lists.{whole-instances}

abbrev a_struct : List ℕ → ℕ → Open → DeclarationOf
a_struct name parameters t = record {
  name = name;
  parameters = parameters;
  annotations = unannotated;
  body = fields (named_fields (alone false) (record { name = codes "v"; required = true; annotations = unannotated; of = t } ∷ []));
}

abbrev one : Open → Opens
one t = more_types t no_types

-- struct P<T> { v: T }  struct R { v: P<Value> }
abbrev source : List DeclarationOf
source = a_struct (codes "P") 1 (param 0) ∷ a_struct (codes "R") 0 (named 0 (one any_value)) ∷ []

abbrev p_value : Open
p_value = named 0 (one any_value)

abbrev r : Open
r = named 1 no_types

abbrev both : List Open
both = r ∷ p_value ∷ []

numbers : (number_in both r ≡ Some 0) × (number_in both p_value ≡ Some 1) × (number_in both (named 0 (one free_object)) ≡ None)
numbers = (refl, refl, refl)

different : AreDifferent both
different = (unlike, ((λ h. h), tt))
  where
    unlike : ¬ IsOneOf r (p_value ∷ [])
    unlike (inl e) = cc
    unlike (inr h) = h

twice : ¬ AreDifferent (r ∷ p_value ∷ r ∷ [])
twice d = d.0 (inr (inl refl))

-- ---- all of them: R, and P<Value> in its place
r_root : IsRoot source 1
r_root = (omega arith, refl)

reached : (t : Open) → IsOneOf t both → IsReachable source t
reached t (inl e) = subst (IsReachable source) (sym e) (root 1 r_root)
reached t (inr (inl e)) = subst (IsReachable source) (sym e) (stands r p_value (root 1 r_root) (inl (inl refl)))
reached t (inr (inr h)) = absurd h

only_r : (d : ℕ) → IsRoot source d → IsOneOf (named d no_types) both
only_r zero h = let e : 1 ≡ 0 = h.1 in absurd (omega (arith, e))
only_r (suc zero) h = inl refl
only_r (suc (suc d)) h = let l : suc (suc d) < 2 = h.0 in absurd (omega (arith, l))

in_r : (u : Open) → StandsInOne u (places_at source r) → IsOneOf u both
in_r u (inl (inl e)) = inr (inl e)
in_r u (inl (inr (inl h))) = absurd h
in_r u (inl (inr (inr h))) = absurd h
in_r u (inr h) = absurd h

in_p : (u : Open) → StandsInOne u (places_at source p_value) → IsOneOf u both
in_p u (inl h) = absurd h
in_p u (inr h) = absurd h

with_places : (t u : Open) → IsOneOf t both → StandsInOne u (places_at source t) → IsOneOf u both
with_places t u (inl e) s = in_r u (subst (λ x. StandsInOne u (places_at source x)) e s)
with_places t u (inr (inl e)) s = in_p u (subst (λ x. StandsInOne u (places_at source x)) e s)
with_places t u (inr (inr h)) s = absurd h

all_of_them : AreInstances source both
all_of_them = whole-instances source both reached different (record { roots = only_r; places = with_places })

closed : AreAllClosed (places_at source p_value)
closed = (tt, tt)

-- ---- each type fits; with `struct R { v: P<Value, Value> }`, or with `struct R { v: T }`, not each does
fitting : AreFitting source
fitting zero l = (omega arith, tt)
fitting (suc zero) l = ((omega arith, refl, (tt, tt)), tt)
fitting (suc (suc d)) l = absurd (omega (arith, l))

fit : IsFit source p_value
fit = record { declaration = 0; arguments = one any_value; is = refl; over = (omega arith, refl, (tt, tt)) }

two_arguments : ¬ AreFitting (a_struct (codes "P") 1 (param 0) ∷ a_struct (codes "R") 0 (named 0 (more_types any_value (one any_value))) ∷ [])
two_arguments f = let e : 2 ≡ 1 = (f 1 (omega arith)).0.1 in omega (arith, e)

parameter_of_none : ¬ AreFitting (a_struct (codes "R") 0 (param 0) ∷ [])
parameter_of_none f = let l : 0 < 0 = (f 0 (omega arith)).0 in omega (arith, l)
