use Rattle.std.proofs.Common.{◌≡◌, ◌++◌, length, map}
use Rattle.std.specs.List.{filter}
use Rattle.selecting.specs.Standing.{item_names, is_own}
use Rattle.selecting.proofs.standing.push_item_names.Given as goal

abbrev pub invariant-items : goal.invariant-items
invariant-items l = l.own ++ item_names (filter (λ i. is_own l.selection i.file) (map (λ i. i.now) l.rest)) ≡ l.initial.own ++ item_names (filter (λ i. is_own l.selection i.file) (map (λ i. i.now) l.items))

abbrev pub decreases-items : goal.decreases-items
decreases-items l = length l.rest
