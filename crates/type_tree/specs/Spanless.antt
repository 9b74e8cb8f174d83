-- Type trees without their spans: the paths' are `0..0`, and the trees have none.
use Rattle.std.specs.Prelude.{None, option_map}
use Rattle.written_types.specs.Spanless.{path_without_spans}
use Rattle.type_tree.specs.TypeTrees.{TreePath, written_path, array_path, Tree, tree, Children, childless, children, Trees, no_trees, more_trees}

abbrev pub tree_path_without_spans : TreePath → TreePath
tree_path_without_spans (written_path p) = written_path (path_without_spans p)
tree_path_without_spans array_path = array_path

abbrev mutual
  pub tree_without_spans : Tree → Tree
  tree_without_spans (tree p s v g cs) = tree (option_map tree_path_without_spans p) None v g (children_without_spans cs)

  pub children_without_spans : Children → Children
  children_without_spans childless = childless
  children_without_spans (children ts) = children (trees_without_spans ts)

  pub trees_without_spans : Trees → Trees
  trees_without_spans no_trees = no_trees
  trees_without_spans (more_trees t ts) = more_trees (tree_without_spans t) (trees_without_spans ts)
