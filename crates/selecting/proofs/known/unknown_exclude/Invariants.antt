use Rattle.std.proofs.Common.{◌≡◌, length}
use Rattle.selecting.specs.Standing.{unknown_exclude}
use Rattle.selecting.proofs.known.unknown_exclude.Given as goal

abbrev pub invariant-texts : goal.invariant-texts
invariant-texts l = unknown_exclude l.names l.items l.aliases l.rest ≡ unknown_exclude l.names l.items l.aliases l.exclude

abbrev pub decreases-texts : goal.decreases-texts
decreases-texts l = length l.rest
