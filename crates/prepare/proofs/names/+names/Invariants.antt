use Rattle.std.proofs.Common.{◌≡◌, ◌++◌, map, take}
use Rattle.tokens.specs.Trees.{tree_view}
use Rattle.prepare.specs.Names.{all_names}
use Rattle.prepare.proofs.names.+names.Given as goal

abbrev pub invariant-push_all_names-loop-tree : goal.invariant-push_all_names-loop-tree
invariant-push_all_names-loop-tree l = l.names ≡ l.initial.names ++ all_names (map tree_view (take l.tree-index l.trees))
