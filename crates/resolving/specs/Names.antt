-- The names that decide what a written type stands for, and how many type arguments each has (The Rust Reference, "Paths", "Types").
use Rattle.std.specs.Prelude.{ℕ, suc, ◌+◌, List, [], ◌∷◌, ◌++◌, Bool, true, false, Option, Some, None, bytes_eq, cond, codes}
use Rattle.texts.specs.declared.span.Span.{Span}
use Rattle.written_types.specs.declared.written.Ident.{Ident}
use Rattle.written_types.specs.Written.{Written, Writtens, WrittenPath, Segments, Segment, Arguments, Argument, path, reference, tuple, slice, array, trait_object, no_types, more_types, path_of, no_segments, more_segments, plain, applied, no_arguments, more_arguments, lifetime_argument, constant_argument, type_argument}
use Rattle.leaves.specs.declared.leaf.Leaf.{Leaf}
use Rattle.leaves.specs.Leaves.{leaf_of}
use Rattle.open_types.specs.declared.head.Head.{Head}
use Rattle.open_types.specs.Heads.{container_of}
use Rattle.resolving.specs.Known.{Known}
use Rattle.resolving.specs.declared.meaning.Meaning.{Meaning}
use Rattle.resolving.specs.declared.meaning.Meaning.TheVariants as meanings

-- ---- what stands in a written type

abbrev pub constant_segment : Known → Segment → Bool
constant_segment known (plain x) = known.is_constant x.text
constant_segment known (applied x args) = false

abbrev pub constant_segments : Known → Segments → Bool
constant_segments known no_segments = false
constant_segments known (more_segments s no_segments) = constant_segment known s
constant_segments known (more_segments s (more_segments x rest)) = false

abbrev pub constant_path : Known → WrittenPath → Bool
constant_path known (path_of true ss s) = false
constant_path known (path_of false ss s) = constant_segments known ss

-- one identifier that names a constant parameter
abbrev pub is_constant_type : Known → Written → Bool
is_constant_type known (path p) = constant_path known p
is_constant_type known _ = false

-- the types among the arguments: lifetimes and constants are left away
abbrev pub types_of : Known → Arguments → List Written
types_of known no_arguments = []
types_of known (more_arguments (lifetime_argument x) rest) = types_of known rest
types_of known (more_arguments (constant_argument ts) rest) = types_of known rest
types_of known (more_arguments (type_argument t) rest) = cond (is_constant_type known t) (types_of known rest) (t ∷ types_of known rest)

abbrev pub ident_of : Segment → Ident
ident_of (plain x) = x
ident_of (applied x args) = x

abbrev pub arguments_of : Segment → Arguments
arguments_of (plain x) = no_arguments
arguments_of (applied x args) = args

-- the name of a path without segments, of which the grammar has none
abbrev pub nameless : Span → Segment
nameless s = plain (record { text = []; raw = false; span = s })

-- the one where no segments are left, else the other
abbrev pub where_none : {A : Type 0} → Segments → A → A → A
where_none no_segments here later = here
where_none (more_segments s ss) here later = later

-- the names that decide what a type stands for: of each path the last segment, and those in its type arguments
abbrev mutual
  pub names_in : Known → Written → List Segment
  names_in known (path p) = names_in_path known p
  names_in known (reference t) = names_in known t
  names_in known (tuple ts s) = names_in_types known ts
  names_in known (slice t s) = names_in known t
  names_in known (array t s) = names_in known t
  names_in known (trait_object p s) = names_in_path known p

  pub names_in_path : Known → WrittenPath → List Segment
  names_in_path known (path_of leading ss s) = where_none ss (nameless s ∷ []) (names_in_last known ss)

  pub names_in_last : Known → Segments → List Segment
  names_in_last known no_segments = []
  names_in_last known (more_segments s rest) = where_none rest (s ∷ names_in_segment known s) (names_in_last known rest)

  pub names_in_segment : Known → Segment → List Segment
  names_in_segment known (plain x) = []
  names_in_segment known (applied x args) = names_in_arguments known args

  pub names_in_arguments : Known → Arguments → List Segment
  names_in_arguments known no_arguments = []
  names_in_arguments known (more_arguments a rest) = names_in_argument known a ++ names_in_arguments known rest

  pub names_in_argument : Known → Argument → List Segment
  names_in_argument known (lifetime_argument x) = []
  names_in_argument known (constant_argument ts) = []
  names_in_argument known (type_argument t) = cond (is_constant_type known t) [] (names_in known t)

  pub names_in_types : Known → Writtens → List Segment
  names_in_types known no_types = []
  names_in_types known (more_types t ts) = names_in known t ++ names_in_types known ts

-- how many names, tuples, units, arrays and slices make up a type
abbrev mutual
  pub size : Known → Written → ℕ
  size known (path p) = path_size known p
  size known (reference t) = size known t
  size known (tuple ts s) = suc (sizes known ts)
  size known (slice t s) = suc (size known t)
  size known (array t s) = suc (size known t)
  size known (trait_object p s) = path_size known p

  pub path_size : Known → WrittenPath → ℕ
  path_size known (path_of leading ss s) = suc (last_size known ss)

  pub last_size : Known → Segments → ℕ
  last_size known no_segments = 0
  last_size known (more_segments s rest) = where_none rest (segment_size known s) (last_size known rest)

  pub segment_size : Known → Segment → ℕ
  segment_size known (plain x) = 0
  segment_size known (applied x args) = arguments_size known args

  pub arguments_size : Known → Arguments → ℕ
  arguments_size known no_arguments = 0
  arguments_size known (more_arguments a rest) = argument_size known a + arguments_size known rest

  pub argument_size : Known → Argument → ℕ
  argument_size known (type_argument t) = cond (is_constant_type known t) 0 (size known t)
  argument_size known _ = 0

  pub sizes : Known → Writtens → ℕ
  sizes known no_types = 0
  sizes known (more_types t ts) = size known t + sizes known ts

-- the bytes of a type without the references around it
abbrev pub path_span : WrittenPath → Span
path_span (path_of leading ss s) = s

abbrev pub span_of : Written → Span
span_of (path p) = path_span p
span_of (reference t) = span_of t
span_of (tuple ts s) = s
span_of (slice t s) = s
span_of (array t s) = s
span_of (trait_object p s) = s

-- an array or a slice, perhaps behind references
abbrev pub is_array : Written → Bool
is_array (path p) = false
is_array (reference t) = is_array t
is_array (tuple ts s) = false
is_array (slice t s) = true
is_array (array t s) = true
is_array (trait_object p s) = false

-- ---- what a name stands for

abbrev pub declared_or_unknown : Option ℕ → Meaning
declared_or_unknown (Some d) = meanings.Declared d
declared_or_unknown None = meanings.Unknown

abbrev pub parameter_or : Option ℕ → Meaning → Meaning
parameter_or (Some i) other = meanings.Parameter i
parameter_or None other = other

-- `Self` stands for the declaration in which it is written, where there is one
abbrev pub own_or_unknown : Option ℕ → Meaning
own_or_unknown (Some d) = meanings.Own d
own_or_unknown None = meanings.Unknown

-- a name that is no container and no leaf
abbrev pub other_meaning : Known → List ℕ → Meaning
other_meaning known name =
    cond (bytes_eq name (codes "Value")) meanings.Value
    (cond (bytes_eq name (codes "Object")) meanings.Object
    (cond (bytes_eq name (codes "Self")) (own_or_unknown known.own)
    (parameter_or (known.parameter_of name) (declared_or_unknown (known.place_of name)))))

abbrev pub leaf_or : Option Leaf → Meaning → Meaning
leaf_or (Some x) other = meanings.Leaf x
leaf_or None other = other

abbrev pub container_or : Option Head → Meaning → Meaning
container_or (Some h) other = meanings.Container h
container_or None other = other

-- A name stands for a leaf, any value, any object, the declaration itself, a type parameter or a declaration, in this order.
abbrev pub name_meaning : Known → List ℕ → Meaning
name_meaning known name = leaf_or (leaf_of name) (other_meaning known name)

-- With an argument list it may be a container before that.
abbrev pub written_meaning : Known → Segment → Meaning
written_meaning known (plain x) = name_meaning known x.text
written_meaning known (applied x args) = container_or (container_of x.text) (name_meaning known x.text)

abbrev pub alias_or : Option Written → Meaning → Meaning
alias_or (Some t) other = meanings.Alias
alias_or None other = other

-- And before all of them it may be an alias.
abbrev pub meaning : Known → Segment → Meaning
meaning known s = alias_or (known.alias_of (ident_of s).text) (written_meaning known s)
