use Rattle.std.proofs.Common.{◌≡◌, take, map}
use Rattle.written_types.specs.Written.{segment_view}
use Rattle.resolving.proofs.aliases.copied.Given as goal

abbrev pub invariant-loop-segment : goal.invariant-loop-segment
invariant-loop-segment l = map segment_view l.copy ≡ map segment_view (take l.segment-index l.segments)
