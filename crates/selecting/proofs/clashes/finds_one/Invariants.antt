use Rattle.std.proofs.Common.{◌≡◌, length}
use Rattle.std.specs.BTreeMap.{get_by_text}
use Rattle.selecting.specs.Clashes.{finds_one}
use Rattle.selecting.proofs.clashes.finds_one.Given as goal

abbrev pub invariant-names : goal.invariant-names
invariant-names l = finds_one (get_by_text l.found) l.rest ≡ finds_one (get_by_text l.found) l.names

abbrev pub decreases-names : goal.decreases-names
decreases-names l = length l.rest
