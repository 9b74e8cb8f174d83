use Rattle.std.proofs.Common.{◌≡◌, length, find}
use Rattle.std.specs.BTreeMap.{get_by_text}
use Rattle.file_derivation.specs.LeftOut.{is_needed}
use Rattle.file_derivation.specs.OutNodes.{is_reached}
use Rattle.file_derivation.proofs.left_out.first_needed.Given as goal

abbrev pub invariant-others : goal.invariant-others
invariant-others l = find (is_needed (is_reached (get_by_text l.unreached)) l.name) l.rest ≡ find (is_needed (is_reached (get_by_text l.unreached)) l.name) l.others

abbrev pub decreases-others : goal.decreases-others
decreases-others l = length l.rest
