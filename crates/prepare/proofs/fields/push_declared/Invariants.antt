use Rattle.std.proofs.Common.{◌≡◌, ◌++◌, map, take}
use Rattle.std.specs.List.{flat_map}
use Rattle.tokens.specs.Trees.{tree_view}
use Rattle.prepare.specs.Fields.{field_names, variants_names}
use Rattle.prepare.proofs.fields.push_declared.Given as goal

abbrev pub invariant-loop-tree : goal.invariant-loop-tree
invariant-loop-tree l = l.names ≡ l.initial.names ++ flat_map variants_names (map tree_view (take l.tree-index l.behind))

abbrev pub invariant-loop-tree-2 : goal.invariant-loop-tree-2
invariant-loop-tree-2 l = l.names ≡ l.initial.names ++ flat_map field_names (map tree_view (take l.tree-index l.behind))
