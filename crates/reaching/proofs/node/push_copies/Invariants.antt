use Rattle.std.proofs.Common.{◌≡◌, ◌++◌, length}
use Rattle.reaching.proofs.node.push_copies.Given as goal

abbrev pub invariant-names : goal.invariant-names
invariant-names l = l.copies ++ l.rest ≡ l.initial.copies ++ l.names

abbrev pub decreases-names : goal.decreases-names
decreases-names l = length l.rest
