use Rattle.std.proofs.Common.{◌≡◌, length, map}
use Rattle.tokens.specs.Trees.{tree_view}
use Rattle.prepare.specs.Attributes.{is_for_tests}
use Rattle.prepare.proofs.attributes.is_for_tests.Given as goal

abbrev pub invariant-trees : goal.invariant-trees
invariant-trees l = is_for_tests (map tree_view l.rest) ≡ is_for_tests (map tree_view l.attributes)

abbrev pub decreases-trees : goal.decreases-trees
decreases-trees l = length l.rest
