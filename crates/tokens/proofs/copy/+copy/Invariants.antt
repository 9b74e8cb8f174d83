use Rattle.std.proofs.Common.{◌≡◌, take, map}
use Rattle.tokens.specs.Trees.{tree_view}
use Rattle.tokens.proofs.copy.+copy.Given as goal

abbrev pub invariant-copy_trees-loop-tree : goal.invariant-copy_trees-loop-tree
invariant-copy_trees-loop-tree l = map tree_view l.copies ≡ map tree_view (take l.tree-index l.trees)
