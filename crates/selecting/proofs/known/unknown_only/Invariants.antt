use Rattle.std.proofs.Common.{◌≡◌, length}
use Rattle.selecting.specs.Standing.{unknown_only}
use Rattle.selecting.proofs.known.unknown_only.Given as goal

abbrev pub invariant-names : goal.invariant-names
invariant-names l = unknown_only l.items l.rest ≡ unknown_only l.items l.only

abbrev pub decreases-names : goal.decreases-names
decreases-names l = length l.rest
