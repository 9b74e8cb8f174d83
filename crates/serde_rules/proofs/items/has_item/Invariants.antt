use Rattle.std.proofs.Common.{◌≡◌, take, false}
use Rattle.serde_rules.specs.Items.{has_item}
use Rattle.serde_rules.proofs.items.has_item.Given as goal

abbrev pub invariant-loop-item : goal.invariant-loop-item
invariant-loop-item l = has_item l.name (take l.item-index l.items) ≡ false
