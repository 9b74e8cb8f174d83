use Rattle.std.proofs.Common.{◌≡◌, drop}
use Rattle.written_types.specs.Written.{writtens_view, arguments_view}
use Rattle.type_tree.specs.TypeTrees.{trees_view, argument_trees, item_trees}
use Rattle.type_tree.proofs.Joined.{joined}
use Rattle.type_tree.proofs.build.+build.Given as goal

abbrev pub invariant-item_trees-loop-item : goal.invariant-item_trees-loop-item
invariant-item_trees-loop-item l = joined (trees_view l.trees.items) (item_trees (writtens_view (drop l.item-index l.items))) ≡ item_trees (writtens_view l.items)

abbrev pub invariant-argument_trees-loop-argument : goal.invariant-argument_trees-loop-argument
invariant-argument_trees-loop-argument l = joined (trees_view l.trees.items) (argument_trees (arguments_view (drop l.argument-index l.arguments))) ≡ argument_trees (arguments_view l.arguments)
