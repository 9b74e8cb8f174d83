use Rattle.std.proofs.Common.{◌≡◌, ap, sym, ◌∙◌}
use Rattle.type_tree.specs.declared.tree.TypeTree.TheViews.{out-TypeTree}
use Rattle.type_tree.specs.TypeTrees.{trees_view, shown_children, children}
use Rattle.type_tree.proofs.Views.{same_view}
use Rattle.type_tree.proofs.copy.+copy.Goals as goal
use Rattle.type_tree.proofs.copy.+copy.Goals.{copy_tree-in-None, copy_tree-in-Some+in_ok-copy_trees-in-Some}

pub copy_tree-returns : goal.copy_tree-returns
copy_tree-returns t c =
    let same : shown_children c.match-tree.children ≡ shown_children (out-TypeTree c.args.tree.now).children =
    elim c.match-tree.branch [
      | copy_tree-in-None w ↦ ap shown_children (w.children-is ∙ sym w.in-None.is)
      | copy_tree-in-Some+in_ok-copy_trees-in-Some w ↦
          ap shown_children w.children-is ∙ ap children (w.in_ok-copy_trees-in-Some.ensures ∙ ap trees_view w.as_slice.ensures.value)
          ∙ ap shown_children (sym w.in-Some.is)
    ] in
    same_view c.args.tree.now c.match-tree.children same
