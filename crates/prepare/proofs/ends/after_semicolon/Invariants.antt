use Rattle.std.proofs.Common.{◌≡◌, length, map}
use Rattle.tokens.specs.Trees.{tree_view}
use Rattle.prepare.specs.Ends.{after_semicolon}
use Rattle.prepare.proofs.ends.after_semicolon.Given as goal

abbrev pub invariant-trees : goal.invariant-trees
invariant-trees l = after_semicolon (map tree_view l.rest) ≡ after_semicolon (map tree_view l.trees)

abbrev pub decreases-trees : goal.decreases-trees
decreases-trees l = length l.rest
