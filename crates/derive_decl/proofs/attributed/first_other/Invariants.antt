use Rattle.std.proofs.Common.{◌≡◌, drop, map}
use Rattle.attributes.specs.Attributes.{attribute_view}
use Rattle.derive_decl.specs.Attributed.{first_other}
use Rattle.derive_decl.proofs.attributed.first_other.Given as goal

abbrev pub invariant-loop-attribute : goal.invariant-loop-attribute
invariant-loop-attribute l = first_other (map attribute_view (drop l.attribute-index l.attributes)) ≡ first_other (map attribute_view l.attributes)
