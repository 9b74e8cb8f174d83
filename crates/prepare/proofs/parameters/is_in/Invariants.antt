use Rattle.std.proofs.Common.{◌≡◌, length}
use Rattle.texts.specs.Names.{is_in}
use Rattle.prepare.proofs.parameters.is_in.Given as goal

abbrev pub invariant-names : goal.invariant-names
invariant-names l = is_in l.name l.rest ≡ is_in l.name l.names

abbrev pub decreases-names : goal.decreases-names
decreases-names l = length l.rest
