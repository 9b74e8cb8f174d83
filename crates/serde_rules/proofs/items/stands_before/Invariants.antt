use Rattle.std.proofs.Common.{◌≡◌, map, drop}
use Rattle.attributes.specs.Attributes.{attribute_view, serde_items}
use Rattle.serde_rules.specs.Items.{has_item}
use Rattle.serde_rules.proofs.items.stands_before.Given as goal

abbrev pub invariant-loop-attribute : goal.invariant-loop-attribute
invariant-loop-attribute l = has_item l.name (serde_items (map attribute_view (drop l.attribute-index l.attributes))) ≡ has_item l.name (serde_items (map attribute_view l.attributes))
