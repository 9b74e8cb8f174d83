use Rattle.std.proofs.Common.{◌≡◌, ◌++◌, length, map}
use Rattle.selecting.specs.Elsewhere.{item_name_in}
use Rattle.selecting.proofs.elsewhere.push_items_in.Given as goal

abbrev pub invariant-items : goal.invariant-items
invariant-items l = l.names ++ map item_name_in (map (λ i. i.now) l.rest) ≡ l.initial.names ++ map item_name_in (map (λ i. i.now) l.items)

abbrev pub decreases-items : goal.decreases-items
decreases-items l = length l.rest
