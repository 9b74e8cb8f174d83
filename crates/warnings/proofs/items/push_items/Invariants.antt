use Rattle.std.proofs.Common.{◌≡◌, ◌++◌, map, take}
use Rattle.std.specs.List.{flat_map}
use Rattle.warnings.specs.Rules.{warning_view, warnings_of_item}
use Rattle.warnings.proofs.items.push_items.Given as goal

abbrev pub invariant-loop-item : goal.invariant-loop-item
invariant-loop-item l = map warning_view l.warnings ≡ map warning_view l.initial.warnings ++ flat_map (warnings_of_item l.place) (take l.item-index l.items)
