-- Written types without their spans: each is `0..0`, and no identifier is told to be raw.
use Rattle.std.specs.Prelude.{false}
use Rattle.texts.specs.Span.{no_span}
use Rattle.tokens.specs.Spanless.{trees_without_spans}
use Rattle.written_types.specs.declared.written.Ident.{Ident}
use Rattle.written_types.specs.Written.{Written, path, reference, tuple, slice, array, trait_object, Writtens, no_types, more_types, WrittenPath, path_of, Segments, no_segments, more_segments, Segment, plain, applied, Arguments, no_arguments, more_arguments, Argument, lifetime_argument, constant_argument, type_argument}

abbrev pub ident_without_span : Ident → Ident
ident_without_span x = record { text = x.text; raw = false; span = no_span }

abbrev mutual
  pub type_without_spans : Written → Written
  type_without_spans (path p) = path (path_without_spans p)
  type_without_spans (reference t) = reference (type_without_spans t)
  type_without_spans (tuple ts s) = tuple (types_without_spans ts) no_span
  type_without_spans (slice t s) = slice (type_without_spans t) no_span
  type_without_spans (array t s) = array (type_without_spans t) no_span
  type_without_spans (trait_object p s) = trait_object (path_without_spans p) no_span

  pub types_without_spans : Writtens → Writtens
  types_without_spans no_types = no_types
  types_without_spans (more_types t ts) = more_types (type_without_spans t) (types_without_spans ts)

  pub path_without_spans : WrittenPath → WrittenPath
  path_without_spans (path_of leading ss s) = path_of leading (segments_without_spans ss) no_span

  pub segments_without_spans : Segments → Segments
  segments_without_spans no_segments = no_segments
  segments_without_spans (more_segments s ss) = more_segments (segment_without_spans s) (segments_without_spans ss)

  pub segment_without_spans : Segment → Segment
  segment_without_spans (plain x) = plain (ident_without_span x)
  segment_without_spans (applied x xs) = applied (ident_without_span x) (arguments_without_spans xs)

  pub arguments_without_spans : Arguments → Arguments
  arguments_without_spans no_arguments = no_arguments
  arguments_without_spans (more_arguments x xs) = more_arguments (argument_without_spans x) (arguments_without_spans xs)

  pub argument_without_spans : Argument → Argument
  argument_without_spans (lifetime_argument x) = lifetime_argument (ident_without_span x)
  argument_without_spans (constant_argument ts) = constant_argument (trees_without_spans ts)
  argument_without_spans (type_argument t) = type_argument (type_without_spans t)
