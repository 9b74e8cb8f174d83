use Rattle.std.proofs.Common.{◌≡◌, ◌≤◌, ◌+◌, ◌*◌, ◌++◌, length}
use Rattle.tokens.specs.Trees.{tree_view, depth_of, trees_view, depth}
use Rattle.prepare.specs.Imports.{imports_of}
use Rattle.prepare.proofs.imports.+imports.Given as goal

abbrev pub invariant-push_all_imports-trees : goal.invariant-push_all_imports-trees
invariant-push_all_imports-trees l =
    (l.standing ++ imports_of (trees_view l.rest) ≡ l.initial.standing ++ imports_of (trees_view l.trees)) × (depth (trees_view l.rest) ≤ depth (trees_view l.trees))

abbrev pub decreases-push_all_imports-trees : goal.decreases-push_all_imports-trees
decreases-push_all_imports-trees l = length l.rest

abbrev pub decreases-push_all_imports : goal.decreases-push_all_imports
decreases-push_all_imports l = 2 * depth (trees_view l.trees.now) + 1

abbrev pub decreases-push_imports : goal.decreases-push_imports
decreases-push_imports l = 2 * depth_of (tree_view l.tree.now)
