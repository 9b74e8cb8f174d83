use Rattle.std.proofs.Common.{◌≡◌, take, map}
use Rattle.type_tree.specs.TypeTrees.{tree_view}
use Rattle.type_tree.proofs.copy.+copy.Given as goal

abbrev pub invariant-copy_trees-loop-tree : goal.invariant-copy_trees-loop-tree
invariant-copy_trees-loop-tree l = map tree_view l.copies.items ≡ map tree_view (take l.tree-index l.trees)
