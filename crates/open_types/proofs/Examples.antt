-- Small types, computed.
use Rattle.std.proofs.Common.{ℕ, zero, suc, ◌<◌, List, [], ◌∷◌, ◌≡◌, refl, codes, inl, inr, arith}
use Rattle.leaves.specs.declared.leaf.Leaf.TheVariants.{String, Bool, U8}
use Rattle.open_types.specs.declared.open_type.ListHead.TheVariants as lists
use Rattle.open_types.specs.declared.open_type.MapHead.TheVariants.{HashMap}
use Rattle.open_types.specs.Open.{Open, Opens, leaf, unit, tuple, items, map_of, option, param, named, no_types, more_types, argument_at, substituted}
use Rattle.open_types.specs.Instances.{declared_place, arguments_of, count, StandsIn, StandsInOne, list_size, type_size, type_sizes}
use Rattle.open_types.specs.Within.{IsOver, AreAllOver}
use Rattle.open_types.specs.TypeNames.{with_name, type_name, names_behind}

-- struct P<T> { .. }  struct Q<T> { .. }  struct User { .. }
abbrev one : Open → Opens
one t = more_types t no_types

abbrev p : Open → Open
p t = named 0 (one t)

abbrev q : Open → Open
q t = named 1 (one t)

abbrev user : Open
user = named 2 no_types

abbrev names : ℕ → List ℕ
names zero = codes "P"
names (suc zero) = codes "Q"
names _ = codes "User"

abbrev parameters : ℕ → ℕ
parameters zero = 1
parameters (suc zero) = 1
parameters _ = 0

-- P<HashMap<String, Q<u8>>>
abbrev nested : Open
nested = p (map_of HashMap (leaf String) (q (leaf U8)))

its_parts : (declared_place (q user) ≡ 1) × (arguments_of (q user) ≡ one user)
its_parts = (refl, refl)

no_parts : (declared_place (option user) ≡ 0) × (arguments_of (option user) ≡ no_types)
no_parts = (refl, refl)

-- (u8, bool): an argument past the end is the parameter that is left, counted from the end
abbrev two : Opens
two = more_types (leaf U8) (one (leaf Bool))

second : (count two ≡ 2) × (argument_at two 1 ≡ leaf Bool)
second = (refl, refl)

past_the_end : argument_at two 3 ≡ param 1
past_the_end = refl

arguments_put_in : substituted two (tuple (more_types (param 1) (one (q (param 0))))) ≡ tuple (more_types (leaf Bool) (one (q (leaf U8))))
arguments_put_in = refl

-- ---- P<P<bool>>: an instance stands in its own declaration's argument
itself : StandsIn (p (p (leaf Bool))) (p (p (leaf Bool)))
itself = inl refl

in_the_argument : StandsIn (p (leaf Bool)) (p (p (leaf Bool)))
in_the_argument = inr (inl (inl refl))

not_there : ¬ StandsIn (p (leaf U8)) (p (leaf Bool))
not_there (inl e) = cc
not_there (inr (inl h)) = absurd h
not_there (inr (inr h)) = absurd h

-- in the second of (bool, HashMap<User, Vec<Q<User>>>): as a key, and in a value's argument
abbrev places : List Open
places = leaf Bool ∷ map_of HashMap user (items lists.Vec (q user)) ∷ []

as_key : StandsInOne user places
as_key = inr (inl (inl (inl refl)))

in_a_value : StandsInOne user places
in_a_value = inr (inl (inr (inr (inl (inl refl)))))

-- ---- sizes: SmallVec<[u8; 4]>, (), P<HashMap<String, Q<u8>>>, (u8, bool)
small_size : type_size (items lists.SmallVec (leaf U8)) ≡ 3
small_size = refl

unit_size : (type_size unit ≡ 1) × (list_size lists.Array ≡ 1)
unit_size = (refl, refl)

nested_size : type_size nested ≡ 5
nested_size = refl

tuple_size : type_size (tuple two) ≡ suc (type_sizes two)
tuple_size = refl

-- ---- names
joined : with_name (codes "Vec") (codes "User") ≡ codes "Vec_User"
joined = refl

nested_name : type_name names nested ≡ codes "P_HashMap_String_Q_u8"
nested_name = refl

root_name : type_name names user ≡ codes "User"
root_name = refl

behind : names_behind names two ≡ codes "_u8_bool"
behind = refl

-- ---- P<T> over its parameter; P without arguments, with two, and a declaration that is not there
over_its_own : AreAllOver 3 parameters 1 (p (param 0) ∷ user ∷ [])
over_its_own = ((omega arith, refl, (omega arith, tt)), ((omega arith, refl, tt), tt))

no_argument : ¬ IsOver 3 parameters 0 (named 0 no_types)
no_argument h = let e : 0 ≡ 1 = h.1 in omega (arith, e)

two_arguments : ¬ IsOver 3 parameters 0 (named 0 two)
two_arguments h = let e : 2 ≡ 1 = h.1 in omega (arith, e)

undeclared : ¬ IsOver 3 parameters 0 (named 3 no_types)
undeclared h = let l : 3 < 3 = h.0 in omega (arith, l)

parameter_left : ¬ IsOver 3 parameters 0 (p (param 0))
parameter_left h = let l : 0 < 0 = h.2.0 in omega (arith, l)
