use Rattle.std.proofs.Common.{◌≡◌, map, take}
use Rattle.attributes.specs.Attributes.{attribute_view, serde_items}
use Rattle.serde_rules.specs.Value.{value_rules}
use Rattle.serde_rules.proofs.value.parse_value.Given as goal

abbrev pub invariant-loop-attribute : goal.invariant-loop-attribute
invariant-loop-attribute l = l.rules ≡ value_rules (serde_items (map attribute_view (take l.attribute-index l.attributes)))
