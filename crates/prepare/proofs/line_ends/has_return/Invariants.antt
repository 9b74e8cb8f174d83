use Rattle.std.proofs.Common.{◌≡◌, ◌==◌, length}
use Rattle.std.specs.List.{list_any}
use Rattle.prepare.proofs.line_ends.has_return.Given as goal

abbrev pub invariant-bytes : goal.invariant-bytes
invariant-bytes l = list_any (λ b. b == 13) l.rest ≡ list_any (λ b. b == 13) l.bytes

abbrev pub decreases-bytes : goal.decreases-bytes
decreases-bytes l = length l.rest
