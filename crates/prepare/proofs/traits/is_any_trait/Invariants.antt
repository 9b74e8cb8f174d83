use Rattle.std.proofs.Common.{◌≡◌, length}
use Rattle.prepare.specs.Traits.{is_any_trait}
use Rattle.prepare.proofs.traits.is_any_trait.Given as goal

abbrev pub invariant-names : goal.invariant-names
invariant-names l = is_any_trait l.traits l.rest ≡ is_any_trait l.traits l.names

abbrev pub decreases-names : goal.decreases-names
decreases-names l = length l.rest
