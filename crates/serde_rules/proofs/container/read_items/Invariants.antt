use Rattle.std.proofs.Common.{List, ◌++◌, take}
use Rattle.attributes.specs.declared.serde_item.SerdeItem.{SerdeItem}
use Rattle.serde_rules.specs.Container.{AreContainerRules}
use Rattle.serde_rules.proofs.container.read_items.Given as goal

abbrev pub invariant-loop-item : goal.invariant-loop-item
invariant-loop-item l = (before : List SerdeItem) → AreContainerRules before l.fn.so_far → AreContainerRules (before ++ take l.item-index l.items) l.rules
