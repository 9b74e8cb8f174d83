use Rattle.std.proofs.Common.{◌≡◌, IfOk, subst}
use Rattle.schema_trees.specs.Schema.{tree_view}
use Rattle.filling.proofs.SameLeaves.{bind-leaf}
use Rattle.filling.proofs.copy.copied.Goals as goal

pub returns : goal.returns
returns g c = subst (λ s. IfOk c.filled.result (λ copy. tree_view g.L.CopyLeaf.meaning copy ≡ s)) (bind-leaf (tree_view g.L.CopyLeaf.meaning c.args.tree.now)) c.filled.ensures
