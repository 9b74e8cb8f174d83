use Rattle.std.proofs.Common.{◌≡◌, length, map}
use Rattle.tokens.specs.Trees.{tree_view}
use Rattle.prepare.specs.Ends.{after_path}
use Rattle.prepare.proofs.ends.after_path.Given as goal

abbrev pub invariant-trees : goal.invariant-trees
invariant-trees l = after_path (map tree_view l.rest) ≡ after_path (map tree_view l.trees)

abbrev pub decreases-trees : goal.decreases-trees
decreases-trees l = length l.rest
