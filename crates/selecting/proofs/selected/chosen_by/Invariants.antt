use Rattle.std.proofs.Common.{◌≡◌, ◌++◌, length, map}
use Rattle.std.specs.BTreeMap.{get_by_text}
use Rattle.std.specs.List.{filter}
use Rattle.selecting.specs.Selected.{is_chosen}
use Rattle.selecting.proofs.selected.chosen_by.Given as goal

abbrev pub invariant-items : goal.invariant-items
invariant-items l = map (λ i. i.now) l.chosen ++ filter (is_chosen (get_by_text l.unreached) l.selection) (map (λ i. i.now) l.rest) ≡ filter (is_chosen (get_by_text l.unreached) l.selection) (map (λ i. i.now) l.items)

abbrev pub decreases-items : goal.decreases-items
decreases-items l = length l.rest
