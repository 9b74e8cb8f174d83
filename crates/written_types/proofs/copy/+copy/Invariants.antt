use Rattle.std.proofs.Common.{◌≡◌, take, map}
use Rattle.written_types.specs.Written.{written_view, segment_view, argument_view}
use Rattle.written_types.proofs.copy.+copy.Given as goal

abbrev pub invariant-copy_types-loop-ty : goal.invariant-copy_types-loop-ty
invariant-copy_types-loop-ty l = map written_view l.copies ≡ map written_view (take l.ty-index l.types)

abbrev pub invariant-copy_segments-loop-segment : goal.invariant-copy_segments-loop-segment
invariant-copy_segments-loop-segment l = map segment_view l.copies ≡ map segment_view (take l.segment-index l.segments)

abbrev pub invariant-copy_arguments-loop-argument : goal.invariant-copy_arguments-loop-argument
invariant-copy_arguments-loop-argument l = map argument_view l.copies ≡ map argument_view (take l.argument-index l.arguments)
