-- The types that texts of aliases are, what stands in the types of aliases, and how deep aliases stand in each other.
use Rattle.std.specs.Prelude.{◌≡◌, ◌||◌, ℕ, List, [], ◌∷◌, ◌++◌, map, length, Bool, true, false, codes}
use Rattle.std.specs.List.{filter_map}
use Rattle.texts.specs.Names.{place_in}
use Rattle.texts.specs.Span.{no_span}
use Rattle.texts.specs.declared.span.Span.{Span}
use Rattle.diag.specs.Refusal.{IsRefusal}
use Rattle.diag.specs.declared.error.DeriveError.{DeriveError}
use Rattle.diag.specs.declared.kind.Kind.TheVariants.{BadRow}
use Rattle.inlining.specs.Inlining.{IsPath}
use Rattle.type_grammar.specs.Source.{ReadsType, TypeNestsTooDeep}
use Rattle.written_types.specs.Written.{Written, path, reference, tuple, slice, array, trait_object, Writtens, no_types, more_types, WrittenPath, path_of, Segments, no_segments, more_segments, Segment, plain, applied, Arguments, no_arguments, more_arguments, Argument, lifetime_argument, constant_argument, type_argument}
use Rattle.configuration.specs.Configuration.{Alias}

abbrev pub alias_names : List Alias → List (List ℕ)
alias_names aliases = map (λ a. a.name) aliases

abbrev pub alias_types : List Alias → List Written
alias_types aliases = map (λ a. a.of) aliases

-- ---- which type a text is

-- the text is one type, which nests at most 64 levels
abbrev pub IsTypeText : List ℕ → Written → Type 0
IsTypeText text t = ReadsType text t × ((span : Span) → ¬ (TypeNestsTooDeep text span))

-- the refusal of a text that is none
abbrev pub IsBadRow : DeriveError → Type 0
IsBadRow error = IsRefusal BadRow no_span (codes "a row of `aliases` is no type") error

-- ---- which aliases stand in a type

abbrev pub segment_name : Segment → List ℕ
segment_name (plain x) = x.text
segment_name (applied x args) = x.text

-- the name of the last segment, of which a path has one at least
abbrev pub last_name : Segments → List (List ℕ)
last_name no_segments = []
last_name (more_segments s no_segments) = segment_name s ∷ []
last_name (more_segments s (more_segments u rest)) = last_name (more_segments u rest)

-- the last names of all paths in a type, those in the arguments of any segment among them
abbrev mutual
  pub last_names : Written → List (List ℕ)
  last_names (path p) = path_last_names p
  last_names (reference t) = last_names t
  last_names (tuple ts s) = types_last_names ts
  last_names (slice t s) = last_names t
  last_names (array t s) = last_names t
  last_names (trait_object p s) = path_last_names p

  pub types_last_names : Writtens → List (List ℕ)
  types_last_names no_types = []
  types_last_names (more_types t ts) = last_names t ++ types_last_names ts

  pub path_last_names : WrittenPath → List (List ℕ)
  path_last_names (path_of leading ss s) = last_name ss ++ segments_last_names ss

  pub segments_last_names : Segments → List (List ℕ)
  segments_last_names no_segments = []
  segments_last_names (more_segments s rest) = segment_last_names s ++ segments_last_names rest

  pub segment_last_names : Segment → List (List ℕ)
  segment_last_names (plain x) = []
  segment_last_names (applied x args) = arguments_last_names args

  pub arguments_last_names : Arguments → List (List ℕ)
  arguments_last_names no_arguments = []
  arguments_last_names (more_arguments a rest) = argument_last_names a ++ arguments_last_names rest

  pub argument_last_names : Argument → List (List ℕ)
  argument_last_names (lifetime_argument x) = []
  argument_last_names (constant_argument ts) = []
  argument_last_names (type_argument t) = last_names t

-- of each alias the aliases whose names stand last in paths of its type, by their places
abbrev pub targets : List Alias → List (List ℕ)
targets aliases = map (λ a. filter_map (λ name. place_in name (alias_names aliases)) (last_names a.of)) aliases

-- There are 33 aliases of which each stands in the type of the one before; there are where an alias stands in its own.
abbrev pub AreDeep : List Alias → Type 0
AreDeep aliases = (chain : List ℕ) × IsPath (targets aliases) chain × (length chain ≡ 33)

-- ---- types without what nothing is resolved from

abbrev pub are_several : Segments → Bool
are_several no_segments = false
are_several (more_segments s no_segments) = false
are_several (more_segments s (more_segments u rest)) = true

-- Of each path the last segment is left, behind `::` where the path begins with it or other segments stood before; and of the arguments of that segment the types.
abbrev mutual
  pub bare : Written → Written
  bare (path p) = path (bare_path p)
  bare (reference t) = reference (bare t)
  bare (tuple ts s) = tuple (all_bare ts) s
  bare (slice t s) = slice (bare t) s
  bare (array t s) = array (bare t) s
  bare (trait_object p s) = trait_object (bare_path p) s

  pub all_bare : Writtens → Writtens
  all_bare no_types = no_types
  all_bare (more_types t ts) = more_types (bare t) (all_bare ts)

  pub bare_path : WrittenPath → WrittenPath
  bare_path (path_of leading ss s) = path_of (leading || are_several ss) (last_bare ss) s

  pub last_bare : Segments → Segments
  last_bare no_segments = no_segments
  last_bare (more_segments s no_segments) = more_segments (bare_segment s) no_segments
  last_bare (more_segments s (more_segments u rest)) = last_bare (more_segments u rest)

  pub bare_segment : Segment → Segment
  bare_segment (plain x) = plain x
  bare_segment (applied x args) = applied x (types_among args)

  pub types_among : Arguments → Arguments
  types_among no_arguments = no_arguments
  types_among (more_arguments a rest) = type_before a (types_among rest)

  -- the argument before others, where it is a type
  pub type_before : Argument → Arguments → Arguments
  type_before (lifetime_argument x) rest = rest
  type_before (constant_argument ts) rest = rest
  type_before (type_argument t) rest = more_arguments (type_argument (bare t)) rest
