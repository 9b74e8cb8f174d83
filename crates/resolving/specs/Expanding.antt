-- What the program makes of a type where it stands.
use Rattle.std.specs.Prelude.{List, Option, Some, None, cond, option_map, map}
use Rattle.texts.specs.declared.list.List.{List as Items}
use Rattle.written_types.specs.declared.written.GenericArgument.{GenericArgument}
use Rattle.texts.specs.declared.span.Span.{Span}
use Rattle.written_types.specs.Written.{Written, Writtens, WrittenPath, Segments, Segment, Arguments, Argument, path, reference, tuple, slice, array, trait_object, path_of, no_segments, more_segments, argument_view}
use Rattle.resolving.specs.declared.aliases.Place.{Place}
use Rattle.resolving.specs.Known.{Known}
use Rattle.resolving.specs.Names.{types_of, ident_of, arguments_of, where_none}
use Rattle.resolving.specs.Aliases.{span_at, are_none, standing, expanded, expanded_arguments, expanded_segment, expanded_argument, expanded_list, expanded_types}

-- an argument list, argument by argument
abbrev pub arguments_list : Items GenericArgument → List Argument
arguments_list args = map argument_view args

-- the type of the alias that a segment names
abbrev pub segment_alias_of : Known → Segment → Option Written
segment_alias_of known s = cond (are_none (types_of known (arguments_of s))) (known.alias_of (ident_of s).text) None

abbrev pub with_span : Segment → Option Written → Option (Written × Span)
with_span s found = option_map (λ t. (t, (ident_of s).span)) found

-- that of the last segment, and the span of its name
abbrev pub last_alias_of : Known → Segments → Option (Written × Span)
last_alias_of known no_segments = None
last_alias_of known (more_segments s rest) = where_none rest (with_span s (segment_alias_of known s)) (last_alias_of known rest)

abbrev pub path_alias_of : Known → WrittenPath → Option (Written × Span)
path_alias_of known (path_of leading ss s) = last_alias_of known ss

-- that of a type
abbrev pub type_alias_of : Known → Written → Option (Written × Span)
type_alias_of known (path p) = path_alias_of known p
type_alias_of known (reference t) = None
type_alias_of known (tuple ts s) = None
type_alias_of known (slice t s) = None
type_alias_of known (array t s) = None
type_alias_of known (trait_object p s) = path_alias_of known p

abbrev pub expanded_here : Known → Place → Written → Written
expanded_here known place t = expanded known (standing known place.below) place.at t

abbrev pub path_here : Known → Place → WrittenPath → WrittenPath
path_here known place p = expanded_arguments known (standing known place.below) place.at p

-- what is made of a type that is no alias itself
abbrev pub inside_here : Known → Place → Written → Written
inside_here known place (path p) = path (path_here known place p)
inside_here known place (reference t) = reference (expanded_here known place t)
inside_here known place (tuple ts s) = tuple (expanded_types known (standing known place.below) place.at ts) (span_at place.at s)
inside_here known place (slice t s) = slice (expanded_here known place t) (span_at place.at s)
inside_here known place (array t s) = array (expanded_here known place t) (span_at place.at s)
inside_here known place (trait_object p s) = trait_object (path_here known place p) (span_at place.at s)

abbrev pub segment_here : Known → Place → Segment → Segment
segment_here known place s = expanded_segment known (standing known place.below) place.at s

abbrev pub argument_here : Known → Place → Argument → Argument
argument_here known place a = expanded_argument known (standing known place.below) place.at a

abbrev pub list_here : Known → Place → Arguments → Arguments
list_here known place args = expanded_list known (standing known place.below) place.at args

abbrev pub types_here : Known → Place → Writtens → Writtens
types_here known place ts = expanded_types known (standing known place.below) place.at ts
