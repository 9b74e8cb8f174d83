use Rattle.std.proofs.Common.{◌≡◌, map, drop}
use Rattle.texts.specs.Names.{is_in}
use Rattle.shapes.specs.Declarations.{member_names}
use Rattle.shapes.specs.Views.{member_view}
use Rattle.derive_decl.proofs.tags.is_member.Given as goal

-- none of the members so far has the name, so those still to come decide
abbrev pub invariant-loop-member : goal.invariant-loop-member
invariant-loop-member l = is_in l.name (member_names (map member_view (drop l.member-index l.members))) ≡ is_in l.name (member_names (map member_view l.members))
