use Rattle.std.proofs.Common.{◌≡◌, ◌++◌, map, replicate}
use Rattle.gathering.proofs.reading.push_times.Given as goal

abbrev pub invariant-items : goal.invariant-items
invariant-items l = map (λ i. i.now) l.from ++ replicate l.left l.item ≡ map (λ i. i.now) l.initial.from ++ replicate l.times l.item

abbrev pub decreases-items : goal.decreases-items
decreases-items l = l.left
