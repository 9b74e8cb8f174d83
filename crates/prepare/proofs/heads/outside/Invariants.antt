use Rattle.std.proofs.Common.{◌≡◌, ◌+◌, ◌≤◌, ◌++◌, length, map}
use Rattle.tokens.specs.Trees.{tree_view}
use Rattle.prepare.specs.Heads.{outside_from, outside}
use Rattle.prepare.proofs.heads.outside.Given as goal

abbrev pub invariant-trees : goal.invariant-trees
invariant-trees l =
    (map (λ tree. tree_view tree.now) l.kept ++ outside_from l.was l.opened (map tree_view l.rest) ≡ outside (map tree_view l.trees)) × (l.opened + length l.rest ≤ length l.trees)

abbrev pub decreases-trees : goal.decreases-trees
decreases-trees l = length l.rest
