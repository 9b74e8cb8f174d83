use Rattle.std.proofs.Common.{◌≡◌, List, ◌++◌, take}
use Rattle.attributes.specs.declared.serde_item.SerdeItem.{SerdeItem}
use Rattle.serde_rules.specs.Value.{value_rules}
use Rattle.serde_rules.proofs.value.read_items.Given as goal

abbrev pub invariant-loop-item : goal.invariant-loop-item
invariant-loop-item l = (before : List SerdeItem) → l.fn.so_far ≡ value_rules before → l.rules ≡ value_rules (before ++ take l.item-index l.items)
