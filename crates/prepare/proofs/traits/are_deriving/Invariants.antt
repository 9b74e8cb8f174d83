use Rattle.std.proofs.Common.{◌≡◌, length, map}
use Rattle.tokens.specs.Trees.{tree_view}
use Rattle.prepare.specs.Traits.{are_deriving}
use Rattle.prepare.proofs.traits.are_deriving.Given as goal

abbrev pub invariant-trees : goal.invariant-trees
invariant-trees l = are_deriving l.traits (map tree_view l.rest) ≡ are_deriving l.traits (map tree_view l.attributes)

abbrev pub decreases-trees : goal.decreases-trees
decreases-trees l = length l.rest
