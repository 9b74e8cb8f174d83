use Rattle.std.proofs.Common.{◌≡◌, drop}
use Rattle.type_tree.specs.TypeTrees.{trees_view, any_mentions}
use Rattle.type_tree.proofs.ask.+mentions.Given as goal

abbrev pub invariant-any_mentions-loop-tree : goal.invariant-any_mentions-loop-tree
invariant-any_mentions-loop-tree l = any_mentions l.name (trees_view (drop l.tree-index l.trees)) ≡ any_mentions l.name (trees_view l.trees)
