-- What cannot be an argument of a declared type: what has no name of its own, and what holds it.
use Rattle.std.specs.Prelude.{Bool, true, false, ◌||◌, ◌&&◌}
use Rattle.written_types.specs.Written.{Written, WrittenPath, Segments, Segment, Arguments, Argument, path, reference, tuple, slice, array, trait_object, path_of, no_segments, more_segments, plain, applied, no_arguments, more_arguments, lifetime_argument, constant_argument, type_argument}
use Rattle.resolving.specs.declared.meaning.Meaning.{Meaning}
use Rattle.resolving.specs.declared.meaning.Meaning.TheVariants as meanings
use Rattle.resolving.specs.Known.{Known}
use Rattle.resolving.specs.Names.{where_none, meaning}

-- a tuple, the unit, an array or a slice stands in the type, at any depth: that of a `SmallVec` too
abbrev mutual
  pub holds_bad : Written → Bool
  holds_bad (path p) = path_holds_bad p
  holds_bad (reference t) = holds_bad t
  holds_bad (tuple ts s) = true
  holds_bad (slice t s) = true
  holds_bad (array t s) = true
  holds_bad (trait_object p s) = path_holds_bad p

  pub path_holds_bad : WrittenPath → Bool
  path_holds_bad (path_of leading ss s) = last_holds_bad ss

  pub last_holds_bad : Segments → Bool
  last_holds_bad no_segments = false
  last_holds_bad (more_segments s rest) = where_none rest (segment_holds_bad s) (last_holds_bad rest)

  pub segment_holds_bad : Segment → Bool
  segment_holds_bad (plain x) = false
  segment_holds_bad (applied x args) = arguments_hold_bad args

  pub arguments_hold_bad : Arguments → Bool
  arguments_hold_bad no_arguments = false
  arguments_hold_bad (more_arguments a rest) = argument_holds_bad a || arguments_hold_bad rest

  pub argument_holds_bad : Argument → Bool
  argument_holds_bad (type_argument t) = holds_bad t
  argument_holds_bad _ = false

abbrev pub is_declared : Meaning → Bool
is_declared (meanings.Declared d) = true
is_declared _ = false

-- the name is that of a declaration, and a type argument cannot be one of a declared type
abbrev pub are_bad : Known → Segment → Bool
are_bad known s = segment_holds_bad s && is_declared (meaning known s)
