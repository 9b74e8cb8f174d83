-- Written types in which aliases are replaced by the types that they stand for.
use Rattle.std.specs.Prelude.{ℕ, zero, suc, List, [], ◌∷◌, Bool, true, false, Option, Some, None, cond, option_map, unwrap_or}
use Rattle.texts.specs.declared.span.Span.{Span}
use Rattle.written_types.specs.declared.written.Ident.{Ident}
use Rattle.written_types.specs.Written.{Written, Writtens, WrittenPath, Segments, Segment, Arguments, Argument, path, reference, tuple, slice, array, trait_object, no_types, more_types, path_of, no_segments, more_segments, plain, applied, no_arguments, more_arguments, lifetime_argument, constant_argument, type_argument}
use Rattle.resolving.specs.Known.{Known}
use Rattle.resolving.specs.Names.{types_of, ident_of, arguments_of, where_none, is_constant_type}

-- ---- spans

-- the span of a name that was replaced, where a type stands for one, or its own span
abbrev pub span_at : Option Span → Span → Span
span_at None own = own
span_at (Some replaced) own = replaced

abbrev pub ident_at : Option Span → Ident → Ident
ident_at at x = record { text = x.text; raw = x.raw; span = span_at at x.span }

-- ---- names

-- what names stand for as aliases, where they stand at these spans
abbrev pub Standing : Type 0
Standing = Span → List ℕ → Option Written

abbrev pub are_none : List Written → Bool
are_none [] = true
are_none (t ∷ ts) = false

-- an alias takes no type arguments
abbrev pub segment_alias : Known → Standing → Option Span → Segment → Option Written
segment_alias known standing at s =
    cond (are_none (types_of known (arguments_of s))) (standing (span_at at (ident_of s).span) (ident_of s).text) None

abbrev pub path_alias : Known → Standing → Option Span → Segments → Option Written
path_alias known standing at no_segments = None
path_alias known standing at (more_segments s rest) = where_none rest (segment_alias known standing at s) (path_alias known standing at rest)

-- ---- types

-- A type in which names stand for aliases: the last of each path, at any depth of its type arguments. Constants stay.
abbrev mutual
  pub expanded : Known → Standing → Option Span → Written → Written
  expanded known standing at (path p) = expanded_path known standing at p (path (expanded_arguments known standing at p))
  expanded known standing at (reference t) = reference (expanded known standing at t)
  expanded known standing at (tuple ts s) = tuple (expanded_types known standing at ts) (span_at at s)
  expanded known standing at (slice t s) = slice (expanded known standing at t) (span_at at s)
  expanded known standing at (array t s) = array (expanded known standing at t) (span_at at s)
  expanded known standing at (trait_object p s) = expanded_path known standing at p (trait_object (expanded_arguments known standing at p) (span_at at s))

  -- what the path stands for as an alias, else the other
  pub expanded_path : Known → Standing → Option Span → WrittenPath → Written → Written
  expanded_path known standing at (path_of leading ss s) other = unwrap_or (path_alias known standing at ss) other

  pub expanded_arguments : Known → Standing → Option Span → WrittenPath → WrittenPath
  expanded_arguments known standing at (path_of leading ss s) = path_of leading (expanded_last known standing at ss) (span_at at s)

  pub expanded_last : Known → Standing → Option Span → Segments → Segments
  expanded_last known standing at no_segments = no_segments
  expanded_last known standing at (more_segments s rest) =
      where_none rest (more_segments (expanded_segment known standing at s) no_segments) (more_segments s (expanded_last known standing at rest))

  pub expanded_segment : Known → Standing → Option Span → Segment → Segment
  expanded_segment known standing at (plain x) = plain (ident_at at x)
  expanded_segment known standing at (applied x args) = applied (ident_at at x) (expanded_list known standing at args)

  pub expanded_list : Known → Standing → Option Span → Arguments → Arguments
  expanded_list known standing at no_arguments = no_arguments
  expanded_list known standing at (more_arguments a rest) = more_arguments (expanded_argument known standing at a) (expanded_list known standing at rest)

  pub expanded_argument : Known → Standing → Option Span → Argument → Argument
  expanded_argument known standing at (type_argument t) = type_argument (cond (is_constant_type known t) t (expanded known standing at t))
  expanded_argument known standing at a = a

  pub expanded_types : Known → Standing → Option Span → Writtens → Writtens
  expanded_types known standing at no_types = no_types
  expanded_types known standing at (more_types t ts) = more_types (expanded known standing at t) (expanded_types known standing at ts)

-- ---- aliases in the texts of aliases

-- Past so many aliases, one in the text of another, a name stands for none.
abbrev pub standing : Known → ℕ → Standing
standing known zero s name = None
standing known (suc n) s name = option_map (expanded known (standing known n) (Some s)) (known.alias_of name)

abbrev pub most_aliases : ℕ
most_aliases = 32

-- the type in which all aliases are replaced
abbrev pub expanded_type : Known → Written → Written
expanded_type known t = expanded known (standing known most_aliases) None t
