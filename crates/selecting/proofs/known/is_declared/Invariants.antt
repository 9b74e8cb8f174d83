use Rattle.std.proofs.Common.{◌≡◌, length}
use Rattle.texts.specs.Names.{is_in}
use Rattle.selecting.specs.Standing.{item_names}
use Rattle.selecting.proofs.known.is_declared.Given as goal

abbrev pub invariant-items : goal.invariant-items
invariant-items l = is_in l.name (item_names l.rest) ≡ is_in l.name (item_names l.items)

abbrev pub decreases-items : goal.decreases-items
decreases-items l = length l.rest
