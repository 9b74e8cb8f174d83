use Rattle.std.proofs.Common.{◌≡◌, ◌++◌, length, map}
use Rattle.std.specs.BTreeMap.{get_by_text}
use Rattle.selecting.specs.Deriving.{items_staying}
use Rattle.selecting.proofs.derives.items_staying.Given as goal

abbrev pub invariant-items : goal.invariant-items
invariant-items l = map (λ i. i.now) l.left ++ items_staying (get_by_text l.with_traits) l.selection (map (λ i. i.now) l.rest) ≡ items_staying (get_by_text l.with_traits) l.selection (map (λ i. i.now) l.items)

abbrev pub decreases-items : goal.decreases-items
decreases-items l = length l.rest
