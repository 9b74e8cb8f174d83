use Rattle.std.proofs.Common.{◌≡◌, ◌++◌, drop}
use Rattle.written_types.specs.Written.{writtens_view, segments_view, arguments_view}
use Rattle.configuration.specs.Aliases.{types_last_names, segments_last_names, arguments_last_names}
use Rattle.configuration.proofs.names.+names.Given as goal

-- the names so far, and those in what is left, are those before and all

abbrev pub invariant-push_in_types-loop-ty : goal.invariant-push_in_types-loop-ty
invariant-push_in_types-loop-ty l =
    l.names ++ types_last_names (writtens_view (drop l.ty-index l.types))
    ≡ l.fn.names ++ types_last_names (writtens_view l.types)

abbrev pub invariant-push_in_segments-loop-segment : goal.invariant-push_in_segments-loop-segment
invariant-push_in_segments-loop-segment l =
    l.names ++ segments_last_names (segments_view (drop l.segment-index l.segments))
    ≡ l.fn.names ++ segments_last_names (segments_view l.segments)

abbrev pub invariant-push_in_arguments-loop-argument : goal.invariant-push_in_arguments-loop-argument
invariant-push_in_arguments-loop-argument l =
    l.names ++ arguments_last_names (arguments_view (drop l.argument-index l.arguments))
    ≡ l.fn.names ++ arguments_last_names (arguments_view l.arguments)
