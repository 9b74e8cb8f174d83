use Rattle.std.proofs.Common.{◌≡◌, take, map}
use Rattle.attributes.specs.Attributes.{attribute_view}
use Rattle.attributes.specs.Comments.{docs_of}
use Rattle.attributes.proofs.comments.docs_of.Given as goal

abbrev pub invariant-loop-attribute : goal.invariant-loop-attribute
invariant-loop-attribute l = l.docs ≡ docs_of (map attribute_view (take l.attribute-index l.attributes))
