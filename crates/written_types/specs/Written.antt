-- Written types, without where they lie in memory (The Rust Reference, "Paths", "Types").
use Rattle.std.specs.Prelude.{Bool, List, [], ◌∷◌, map, Option, Some, None}
use Rattle.texts.specs.declared.span.Span.{Span}
use Rattle.tokens.specs.Trees.{Trees, trees_view}
use Rattle.written_types.specs.declared.written.Ident.{Ident}
use Rattle.written_types.specs.declared.written.Path.{Path, fold-Path}
use Rattle.written_types.specs.declared.written.PathSegment.{PathSegment, fold-PathSegment}
use Rattle.written_types.specs.declared.written.GenericArgument.{GenericArgument, fold-GenericArgument}
use Rattle.written_types.specs.declared.written.WrittenType.{WrittenType, fold-WrittenType}
use Rattle.written_types.specs.declared.written.GenericArgument.TheOpen.{GenericArgument-F, WrittenType-F, Path-F, PathSegment-F}

mutual
  pub data Written : Type 0 where
    path : WrittenPath → Written
    reference : Written → Written
    tuple : Writtens → Span → Written
    slice : Written → Span → Written
    array : Written → Span → Written
    trait_object : WrittenPath → Span → Written

  pub data Writtens : Type 0 where
    no_types : Writtens
    more_types : Written → Writtens → Writtens

  -- whether it begins with `::`, its segments, and the bytes that it takes
  pub data WrittenPath : Type 0 where
    path_of : Bool → Segments → Span → WrittenPath

  pub data Segments : Type 0 where
    no_segments : Segments
    more_segments : Segment → Segments → Segments

  -- a word alone, and a word with an argument list
  pub data Segment : Type 0 where
    plain : Ident → Segment
    applied : Ident → Arguments → Segment

  pub data Arguments : Type 0 where
    no_arguments : Arguments
    more_arguments : Argument → Arguments → Arguments

  pub data Argument : Type 0 where
    lifetime_argument : Ident → Argument
    constant_argument : Trees → Argument
    type_argument : Written → Argument

abbrev pub writtens_of : List Written → Writtens
writtens_of [] = no_types
writtens_of (t ∷ ts) = more_types t (writtens_of ts)

abbrev pub segments_of : List Segment → Segments
segments_of [] = no_segments
segments_of (s ∷ ss) = more_segments s (segments_of ss)

abbrev pub arguments_of : List Argument → Arguments
arguments_of [] = no_arguments
arguments_of (a ∷ rest) = more_arguments a (arguments_of rest)

abbrev pub segment_of : Ident → Option (List Argument) → Segment
segment_of x None = plain x
segment_of x (Some xs) = applied x (arguments_of xs)

-- one level, where what is inside is seen already
abbrev pub argument_step : GenericArgument-F Argument Written WrittenPath Segment → Argument
argument_step (GenericArgument-F.Lifetime x) = lifetime_argument x
argument_step (GenericArgument-F.Constant ts) = constant_argument (trees_view ts)
argument_step (GenericArgument-F.Ty t) = type_argument t

abbrev pub written_step : WrittenType-F Argument Written WrittenPath Segment → Written
written_step (WrittenType-F.Path p) = path p
written_step (WrittenType-F.Reference t) = reference t.value
written_step (WrittenType-F.Tuple ts s) = tuple (writtens_of ts) s
written_step (WrittenType-F.Slice t s) = slice t.value s
written_step (WrittenType-F.Array t s) = array t.value s
written_step (WrittenType-F.TraitObject p s) = trait_object p s

abbrev pub path_step : Path-F Argument Written WrittenPath Segment → WrittenPath
path_step p = path_of p.leading (segments_of p.segments) p.span

abbrev pub segment_step : PathSegment-F Argument Written WrittenPath Segment → Segment
segment_step s = segment_of s.ident s.arguments

-- what the program's values are
abbrev pub written_view : WrittenType → Written
written_view = fold-WrittenType Argument Written WrittenPath Segment argument_step written_step path_step segment_step

abbrev pub path_view : Path → WrittenPath
path_view = fold-Path Argument Written WrittenPath Segment argument_step written_step path_step segment_step

abbrev pub segment_view : PathSegment → Segment
segment_view = fold-PathSegment Argument Written WrittenPath Segment argument_step written_step path_step segment_step

abbrev pub argument_view : GenericArgument → Argument
argument_view = fold-GenericArgument Argument Written WrittenPath Segment argument_step written_step path_step segment_step

abbrev pub writtens_view : List WrittenType → Writtens
writtens_view ts = writtens_of (map written_view ts)

abbrev pub segments_view : List PathSegment → Segments
segments_view ss = segments_of (map segment_view ss)

abbrev pub arguments_view : List GenericArgument → Arguments
arguments_view xs = arguments_of (map argument_view xs)
