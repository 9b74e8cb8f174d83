use Rattle.std.proofs.Common.{◌≡◌, ◌++◌, length, map}
use Rattle.selecting.specs.Deriving.{deriving_names}
use Rattle.selecting.proofs.derives.deriving_names.Given as goal

abbrev pub invariant-items : goal.invariant-items
invariant-items l = l.names ++ deriving_names (map (λ i. i.now) l.rest) ≡ deriving_names (map (λ i. i.now) l.items)

abbrev pub decreases-items : goal.decreases-items
decreases-items l = length l.rest
