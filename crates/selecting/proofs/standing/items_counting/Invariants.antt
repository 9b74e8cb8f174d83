use Rattle.std.proofs.Common.{◌≡◌, ◌++◌, length, map}
use Rattle.std.specs.BTreeMap.{get_by_text}
use Rattle.selecting.specs.Standing.{items_counting}
use Rattle.selecting.proofs.standing.items_counting.Given as goal

abbrev pub invariant-items : goal.invariant-items
invariant-items l = map (λ i. i.now) l.left ++ items_counting (get_by_text l.own) l.selection (map (λ i. i.now) l.rest) ≡ items_counting (get_by_text l.own) l.selection (map (λ i. i.now) l.items)

abbrev pub decreases-items : goal.decreases-items
decreases-items l = length l.rest
