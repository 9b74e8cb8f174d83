use Rattle.std.proofs.Common.{◌≡◌, length, map}
use Rattle.tokens.specs.Trees.{tree_view}
use Rattle.prepare.specs.Fields.{are_skipping}
use Rattle.prepare.proofs.fields.are_skipping.Given as goal

abbrev pub invariant-trees : goal.invariant-trees
invariant-trees l = are_skipping l.wholly (map tree_view l.rest) ≡ are_skipping l.wholly (map tree_view l.attributes)

abbrev pub decreases-trees : goal.decreases-trees
decreases-trees l = length l.rest
