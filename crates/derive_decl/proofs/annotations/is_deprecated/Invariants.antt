use Rattle.std.proofs.Common.{◌≡◌, map, take, false}
use Rattle.attributes.specs.Attributes.{attribute_view}
use Rattle.derive_decl.specs.Fields.{is_deprecated}
use Rattle.derive_decl.proofs.annotations.is_deprecated.Given as goal

-- none so far
abbrev pub invariant-loop-attribute : goal.invariant-loop-attribute
invariant-loop-attribute l = is_deprecated (map attribute_view (take l.attribute-index l.attributes)) ≡ false
