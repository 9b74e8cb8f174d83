use Rattle.std.proofs.Common.{◌≡◌, length, map}
use Rattle.tokens.specs.Trees.{tree_view}
use Rattle.prepare.specs.Heads.{implemented}
use Rattle.prepare.proofs.heads.implemented.Given as goal

abbrev pub invariant-trees : goal.invariant-trees
invariant-trees l = implemented (map (λ tree. tree_view tree.now) l.rest) ≡ implemented (map (λ tree. tree_view tree.now) l.trees)

abbrev pub decreases-trees : goal.decreases-trees
decreases-trees l = length l.rest
