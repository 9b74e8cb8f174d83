use Rattle.std.proofs.Common.{◌≡◌, ◌≤◌, ◌+◌, ◌*◌, ◌++◌, length}
use Rattle.tokens.specs.Trees.{tree_view, depth_of, trees_view, depth}
use Rattle.prepare.specs.Unread.{phantoms_of}
use Rattle.prepare.proofs.unread.+phantoms.Given as goal

abbrev pub invariant-push_all_phantoms-trees : goal.invariant-push_all_phantoms-trees
invariant-push_all_phantoms-trees l = (l.spans ++ phantoms_of (trees_view l.rest) ≡ l.initial.spans ++ phantoms_of (trees_view l.trees)) × (depth (trees_view l.rest) ≤ depth (trees_view l.trees))

abbrev pub decreases-push_all_phantoms-trees : goal.decreases-push_all_phantoms-trees
decreases-push_all_phantoms-trees l = length l.rest

abbrev pub decreases-push_all_phantoms : goal.decreases-push_all_phantoms
decreases-push_all_phantoms l = 2 * depth (trees_view l.trees.now) + 1

abbrev pub decreases-push_phantoms : goal.decreases-push_phantoms
decreases-push_phantoms l = 2 * depth_of (tree_view l.tree.now)
