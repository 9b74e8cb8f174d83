use Rattle.std.proofs.Common.{◌≡◌, ◌++◌, map, take}
use Rattle.std.specs.List.{flat_map}
use Rattle.tokens.specs.Trees.{tree_view}
use Rattle.prepare.specs.Skipped.{field_skips, variant_skips}
use Rattle.prepare.proofs.skipped.push_skips.Given as goal

abbrev pub invariant-loop-tree : goal.invariant-loop-tree
invariant-loop-tree l = l.spans ≡ l.initial.spans ++ flat_map variant_skips (map tree_view (take l.tree-index l.behind))

abbrev pub invariant-loop-tree-2 : goal.invariant-loop-tree-2
invariant-loop-tree-2 l = l.spans ≡ l.initial.spans ++ flat_map field_skips (map tree_view (take l.tree-index l.behind))
