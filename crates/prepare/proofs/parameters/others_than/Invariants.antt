use Rattle.std.proofs.Common.{◌≡◌, ◌++◌, length}
use Rattle.prepare.specs.Parameters.{others_than}
use Rattle.prepare.proofs.parameters.others_than.Given as goal

abbrev pub invariant-names : goal.invariant-names
invariant-names l = l.others ++ others_than l.own l.rest ≡ others_than l.own l.names

abbrev pub decreases-names : goal.decreases-names
decreases-names l = length l.rest
