use Rattle.std.proofs.Common.{◌≡◌, ◌++◌, length, map}
use Rattle.selecting.specs.Standing.{item_names}
use Rattle.selecting.proofs.imports.push_declared.Given as goal

abbrev pub invariant-items : goal.invariant-items
invariant-items l = l.names ++ item_names (map (λ i. i.now) l.rest) ≡ l.initial.names ++ item_names (map (λ i. i.now) l.items)

abbrev pub decreases-items : goal.decreases-items
decreases-items l = length l.rest
