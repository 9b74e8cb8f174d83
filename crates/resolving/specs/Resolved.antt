-- What a written type stands for, and why it may stand for nothing.
use Rattle.std.specs.Prelude.{◌≡◌, ◌<◌, ◌↔◌, leb, IsSome, ℕ, zero, suc, ◌||◌, List, [], ◌∷◌, ◌++◌, Bool, true, false, not, Option, Some, None, option_map, option_and_then, IsTrue, codes, length, ◌==◌, cond}
use Rattle.texts.specs.Lists.{Somewhere}
use Rattle.diag.specs.Refusal.{IsRefusal}
use Rattle.diag.specs.declared.error.DeriveError.{DeriveError}
use Rattle.diag.specs.declared.kind.Kind.TheVariants.{UnknownType, Arity, BadArgument, TypeSize}
use Rattle.texts.specs.declared.span.Span.{Span}
use Rattle.written_types.specs.declared.written.Ident.{Ident}
use Rattle.written_types.specs.Written.{Written, Writtens, WrittenPath, Segments, Segment, Arguments, Argument, path, reference, tuple, slice, array, trait_object, no_types, more_types, path_of, no_segments, more_segments, plain, applied, no_arguments, more_arguments, lifetime_argument, constant_argument, type_argument}
use Rattle.open_types.specs.declared.open_type.ListHead.{ListHead}
use Rattle.open_types.specs.declared.open_type.ListHead.TheVariants as lists
use Rattle.open_types.specs.Open.{Open, Opens, opens_of}
use Rattle.open_types.specs.Open as types
use Rattle.open_types.specs.Within.{IsOver}
use Rattle.open_types.specs.declared.head.Head.{Head}
use Rattle.open_types.specs.declared.head.Head.TheVariants as heads
use Rattle.resolving.specs.declared.meaning.Meaning.{Meaning}
use Rattle.resolving.specs.declared.meaning.Meaning.TheVariants as meanings
use Rattle.resolving.specs.Known.{Known}
use Rattle.resolving.specs.Free.{declared_with}
use Rattle.resolving.specs.Names.{types_of, ident_of, arguments_of, nameless, where_none, names_in, size, span_of, is_array, meaning, is_constant_type}
use Rattle.resolving.specs.Bad.{are_bad}
use Rattle.resolving.specs.Aliases.{expanded_type}

-- ---- what a name stands for with its type arguments

-- `SmallVec` has an array or slice, whose item is its own
abbrev pub small_list : Open → Option Open
small_list (types.items lists.Array t) = Some (types.items lists.SmallVec t)
small_list _ = None

abbrev pub list_of : ListHead → Open → Option Open
list_of lists.SmallVec t = small_list t
list_of h t = Some (types.items h t)

abbrev pub of_one : Head → Open → Option Open
of_one (heads.List h) t = list_of h t
of_one (heads.Set h) t = Some (types.set h t)
of_one (heads.Map h) t = None
of_one heads.Option t = Some (types.option t)
of_one (heads.Through h) t = Some (types.through h t)

abbrev pub of_two : Head → Open → Open → Option Open
of_two (heads.Map h) k t = Some (types.map_of h k t)
of_two _ k t = None

-- a container of its type arguments
abbrev pub contained : Head → Opens → Option Open
contained h types.no_types = None
contained h (types.more_types t types.no_types) = of_one h t
contained h (types.more_types k (types.more_types t types.no_types)) = of_two h k t
contained h (types.more_types k (types.more_types t (types.more_types u us))) = None

-- what takes no type arguments
abbrev pub alone : Open → Opens → Option Open
alone t types.no_types = Some t
alone t (types.more_types u us) = None

-- the first type parameters, in order
abbrev pub first_parameters : ℕ → List Open
first_parameters zero = []
first_parameters (suc n) = first_parameters n ++ types.param n ∷ []

-- `Self` takes no type arguments: it is the declaration with its own type parameters
abbrev pub own_type : Known → ℕ → Opens → Option Open
own_type known d types.no_types = declared_with known d (opens_of (first_parameters known.parameters))
own_type known d (types.more_types t ts) = None

abbrev pub meant : Known → Meaning → Opens → Option Open
meant known (meanings.Container h) ts = contained h ts
meant known (meanings.Leaf x) ts = alone (types.leaf x) ts
meant known meanings.Value ts = alone types.any_value ts
meant known meanings.Object ts = alone types.free_object ts
meant known (meanings.Parameter i) ts = alone (types.param i) ts
meant known (meanings.Own d) ts = own_type known d ts
meant known (meanings.Declared d) ts = declared_with known d ts
meant known meanings.Alias ts = None
meant known meanings.Unknown ts = None

-- ---- what a written type stands for, where these names are known

abbrev pub tuple_of : Opens → Open
tuple_of types.no_types = types.unit
tuple_of (types.more_types t ts) = types.tuple (types.more_types t ts)

-- References, lifetimes, constants and all but the last segment of a path are dropped. A declared name with an argument that cannot be one stands for nothing.
abbrev mutual
  pub type_of : Known → Written → Option Open
  type_of known (path p) = path_type known p
  type_of known (reference t) = type_of known t
  type_of known (tuple ts s) = option_map tuple_of (all_types known ts)
  type_of known (slice t s) = option_map (types.items lists.Array) (type_of known t)
  type_of known (array t s) = option_map (types.items lists.Array) (type_of known t)
  type_of known (trait_object p s) = path_type known p

  pub path_type : Known → WrittenPath → Option Open
  path_type known (path_of leading ss s) = where_none ss (meant known (meaning known (nameless s)) types.no_types) (last_type known ss)

  pub last_type : Known → Segments → Option Open
  last_type known no_segments = None
  last_type known (more_segments s rest) = where_none rest (segment_type known s) (last_type known rest)

  pub segment_type : Known → Segment → Option Open
  segment_type known (plain x) = meant known (meaning known (plain x)) types.no_types
  segment_type known (applied x args) = cond (are_bad known (applied x args)) None (option_and_then (meant known (meaning known (applied x args))) (argument_types known args))

  pub argument_types : Known → Arguments → Option Opens
  argument_types known no_arguments = Some types.no_types
  argument_types known (more_arguments a rest) = argument_type known a (argument_types known rest)

  pub argument_type : Known → Argument → Option Opens → Option Opens
  argument_type known (lifetime_argument x) rest = rest
  argument_type known (constant_argument ts) rest = rest
  argument_type known (type_argument t) rest = cond (is_constant_type known t) rest (option_and_then (λ u. option_map (types.more_types u) rest) (type_of known t))

  pub all_types : Known → Writtens → Option Opens
  all_types known no_types = Some types.no_types
  all_types known (more_types t ts) = option_and_then (λ u. option_map (types.more_types u) (all_types known ts)) (type_of known t)

-- ---- why a type stands for nothing, or is too large

pub data Fault : Type 0 where
  unknown_type : Ident → Fault
  wrong_arity : Ident → Fault
  bad_argument : Ident → Fault
  too_large : Span → Fault

abbrev pub most_names : ℕ
most_names = 256

-- what a type stands for in which no name is an alias, where it is not too large
abbrev pub fitting_type : Known → Written → Option Open
fitting_type known t = cond (leb (size known t) most_names) (type_of known t) None

-- what a type stands for: the one in which its aliases are replaced
abbrev pub resolved_type : Known → Written → Option Open
resolved_type known t = fitting_type known (expanded_type known t)

abbrev pub is_wrong_item : ListHead → Written → Bool
is_wrong_item lists.Vec t = false
is_wrong_item lists.LinkedList t = false
is_wrong_item lists.SmallVec t = not (is_array t)
is_wrong_item lists.Array t = false

abbrev pub is_wrong_one : Head → Written → Bool
is_wrong_one (heads.List h) t = is_wrong_item h t
is_wrong_one (heads.Set h) t = false
is_wrong_one (heads.Map h) t = true
is_wrong_one heads.Option t = false
is_wrong_one (heads.Through h) t = false

abbrev pub is_no_map : Head → Bool
is_no_map (heads.List h) = true
is_no_map (heads.Set h) = true
is_no_map (heads.Map h) = false
is_no_map heads.Option = true
is_no_map (heads.Through h) = true

-- a map has two type arguments, another container one; that of `SmallVec` is an array or slice
abbrev pub are_wrong_in : Head → List Written → Bool
are_wrong_in h [] = true
are_wrong_in h (t ∷ []) = is_wrong_one h t
are_wrong_in h (k ∷ t ∷ []) = is_no_map h
are_wrong_in h (k ∷ t ∷ u ∷ us) = true

abbrev pub are_any : List Written → Bool
are_any [] = false
are_any (t ∷ ts) = true

-- the type arguments are not those that the name takes: an alias takes none, and then it is replaced
abbrev pub are_wrong : Known → Meaning → List Written → Bool
are_wrong known (meanings.Container h) ts = are_wrong_in h ts
are_wrong known (meanings.Leaf x) ts = are_any ts
are_wrong known meanings.Value ts = are_any ts
are_wrong known meanings.Object ts = are_any ts
are_wrong known (meanings.Parameter i) ts = are_any ts
are_wrong known (meanings.Own d) ts = are_any ts || not (known.parameters == known.parameters_at d)
are_wrong known (meanings.Declared d) ts = not (length ts == known.parameters_at d)
are_wrong known meanings.Alias ts = true
are_wrong known meanings.Unknown ts = false

-- a name in the type is not known, has other type arguments than it takes, or is a declaration's and has one that cannot be its argument; or the type has too many names
abbrev pub IsFaultIn : Known → Written → Fault → Type 0
IsFaultIn known t (unknown_type x) = Somewhere (λ s. (x ≡ ident_of s) × (meaning known s ≡ meanings.Unknown)) (names_in known t)
IsFaultIn known t (wrong_arity x) = Somewhere (λ s. (x ≡ ident_of s) × IsTrue (are_wrong known (meaning known s) (types_of known (arguments_of s)))) (names_in known t)
IsFaultIn known t (bad_argument x) = Somewhere (λ s. (x ≡ ident_of s) × IsTrue (are_bad known s)) (names_in known t)
IsFaultIn known t (too_large s) = (s ≡ span_of t) × (most_names < size known t)

-- a fault of the type in which the aliases are replaced
abbrev pub IsFault : Known → Written → Fault → Type 0
IsFault known t fault = IsFaultIn known (expanded_type known t) fault

-- the error refuses for the fault
abbrev pub IsRefusedFor : Fault → DeriveError → Type 0
IsRefusedFor (unknown_type x) e = IsRefusal UnknownType x.span (codes "unknown type " ++ x.text) e
IsRefusedFor (wrong_arity x) e = IsRefusal Arity x.span (codes "wrong number of type arguments for " ++ x.text) e
IsRefusedFor (bad_argument x) e = IsRefusal BadArgument x.span (codes "tuples, arrays and slices cannot be generic arguments") e
IsRefusedFor (too_large s) e = IsRefusal TypeSize s (codes "a type has more than 256 names") e

-- The law: a type is resolved to something exactly where it has no fault.
abbrev pub ResolutionIsExact : Type 0
ResolutionIsExact = (known : Known) (t : Written) → IsSome (resolved_type known t) ↔ ((fault : Fault) → ¬ (IsFault known t fault))

-- The law: where the places of names and of the declaration itself are below n, and those of its type parameters below their number, a resolved type
-- is over the first n declarations and these parameters, and none has other arguments than it takes.
abbrev pub ResolvedAreOver : Type 0
ResolvedAreOver =
    (known : Known) (n : ℕ) → ((name : List ℕ) (d : ℕ) → known.place_of name ≡ Some d → d < n) → ((d : ℕ) → known.own ≡ Some d → d < n)
    → ((name : List ℕ) (i : ℕ) → known.parameter_of name ≡ Some i → i < known.parameters)
    → (t : Written) (u : Open) → resolved_type known t ≡ Some u → IsOver n known.parameters_at known.parameters u
