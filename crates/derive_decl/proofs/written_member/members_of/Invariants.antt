use Rattle.std.proofs.Common.{◌≡◌, ◌++◌, map}
use Rattle.shapes.specs.Views.{member_view}
use Rattle.derive_decl.specs.Views.{written_member_view}
use Rattle.derive_decl.proofs.written_member.members_of.Given as goal

-- the members so far are those that were taken, and the others are left
abbrev pub invariant-loop-member : goal.invariant-loop-member
invariant-loop-member l =
    (map member_view l.members ≡ map written_member_view l.yielded)
    × (l.yielded ++ l.member-iterator.rest.items ≡ l.initial.member-iterator.rest.items)
