use Rattle.std.proofs.Common.{length, ◌-◌, ◌≡◌, ◌≤◌, ◌+◌, drop}
use Rattle.telling.specs.Positions.{before_feed}
use Rattle.telling.proofs.position.line_end.Given as goal

abbrev pub invariant-bytes : goal.invariant-bytes
invariant-bytes l = (l.end ≤ length l.bytes) × (l.end + length (before_feed (drop l.end l.bytes)) ≡ l.offset + length (before_feed (drop l.offset l.bytes)))

abbrev pub decreases-bytes : goal.decreases-bytes
decreases-bytes l = length l.bytes - l.end
