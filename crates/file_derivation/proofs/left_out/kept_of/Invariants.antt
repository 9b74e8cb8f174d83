use Rattle.std.proofs.Common.{◌≡◌, ◌++◌, length, map}
use Rattle.std.specs.BTreeMap.{get_by_text}
use Rattle.file_derivation.specs.LeftOut.{kept_by}
use Rattle.file_derivation.specs.OutNodes.{is_reached}
use Rattle.file_derivation.proofs.left_out.kept_of.Given as goal

abbrev pub invariant-items : goal.invariant-items
invariant-items l = map (λ i. i.now) l.kept ++ kept_by (is_reached (get_by_text l.left)) (map (λ i. i.now) l.rest) ≡ kept_by (is_reached (get_by_text l.left)) (map (λ i. i.now) l.items)

abbrev pub decreases-items : goal.decreases-items
decreases-items l = length l.rest
