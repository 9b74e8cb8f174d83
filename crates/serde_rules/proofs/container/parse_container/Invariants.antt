use Rattle.std.proofs.Common.{map, take}
use Rattle.attributes.specs.Attributes.{attribute_view, serde_items}
use Rattle.serde_rules.specs.Container.{AreContainerRules}
use Rattle.serde_rules.proofs.container.parse_container.Given as goal

abbrev pub invariant-loop-attribute : goal.invariant-loop-attribute
invariant-loop-attribute l = AreContainerRules (serde_items (map attribute_view (take l.attribute-index l.attributes))) l.rules
