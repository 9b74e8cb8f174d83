use Rattle.std.proofs.Common.{◌≡◌, length, map}
use Rattle.texts.specs.Names.{is_in}
use Rattle.selecting.specs.Standing.{item_line}
use Rattle.selecting.proofs.known.is_item_line.Given as goal

abbrev pub invariant-items : goal.invariant-items
invariant-items l = is_in l.text (map (item_line l.names) l.rest) ≡ is_in l.text (map (item_line l.names) l.items)

abbrev pub decreases-items : goal.decreases-items
decreases-items l = length l.rest
