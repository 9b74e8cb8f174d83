use Rattle.std.proofs.Common.{◌≡◌, ◌++◌, drop}
use Rattle.written_types.specs.Written.{arguments_view, writtens_view, segments_view}
use Rattle.warnings.specs.Applications.{applications_view, applications_in_arguments, applications_in_segments, applications_in_types}
use Rattle.warnings.proofs.applications.+types.Given as goal

-- the applications so far, and those of what is left
abbrev pub invariant-push_in_arguments-loop-argument : goal.invariant-push_in_arguments-loop-argument
invariant-push_in_arguments-loop-argument l = applications_view l.found ++ applications_in_arguments (arguments_view (drop l.argument-index l.arguments)) ≡ applications_view l.initial.found ++ applications_in_arguments (arguments_view l.arguments)

abbrev pub invariant-push_in_types-loop-ty : goal.invariant-push_in_types-loop-ty
invariant-push_in_types-loop-ty l = applications_view l.found ++ applications_in_types (writtens_view (drop l.ty-index l.types)) ≡ applications_view l.initial.found ++ applications_in_types (writtens_view l.types)

abbrev pub invariant-push_in_path-loop-segment : goal.invariant-push_in_path-loop-segment
invariant-push_in_path-loop-segment l = applications_view l.found ++ applications_in_segments (segments_view (drop l.segment-index l.segment-items)) ≡ applications_view l.initial.found ++ applications_in_segments (segments_view l.segment-items)
