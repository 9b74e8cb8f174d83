use Rattle.std.proofs.Common.{◌≡◌, map, take}
use Rattle.schema_trees.specs.Schema.{named_view}
use Rattle.component.specs.Leaves.{leaf_view}
use Rattle.terms.proofs.Members.{property_of}
use Rattle.terms.proofs.named_fields.properties_of.Given as goal

-- the properties so far are those of the members so far
abbrev pub invariant-loop-member : goal.invariant-loop-member
invariant-loop-member l = map (named_view leaf_view) l.properties ≡ map property_of (take l.member-index l.members)
