use Rattle.std.proofs.Common.{◌≡◌, map, take}
use Rattle.terms.specs.Terms.{required_names}
use Rattle.shapes.specs.Views.{member_view}
use Rattle.terms.proofs.named_fields.required_of.Given as goal

-- the names so far are those of the members so far
abbrev pub invariant-loop-member : goal.invariant-loop-member
invariant-loop-member l = l.required ≡ required_names (map member_view (take l.member-index l.members))
