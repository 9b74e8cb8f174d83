use Rattle.std.proofs.Common.{◌≡◌, ◌++◌, map, take}
use Rattle.attributes.specs.Attributes.{attribute_view}
use Rattle.warnings.specs.Rules.{warning_view}
use Rattle.warnings.specs.Before.{warnings_before}
use Rattle.warnings.proofs.items.push_attributes.Given as goal

abbrev pub invariant-loop-attribute : goal.invariant-loop-attribute
invariant-loop-attribute l = map warning_view l.warnings ≡ map warning_view l.initial.warnings ++ warnings_before l.place (map attribute_view (take l.attribute-index l.attributes))
