use Rattle.std.proofs.Common.{◌≡◌, ◌++◌, length}
use Rattle.reaching.specs.Taken.{texts_of}
use Rattle.reaching.proofs.unreached.push_names.Given as goal

abbrev pub invariant-names : goal.invariant-names
invariant-names l = texts_of l.names ++ l.rest ≡ texts_of l.initial.names ++ l.more

abbrev pub decreases-names : goal.decreases-names
decreases-names l = length l.rest
