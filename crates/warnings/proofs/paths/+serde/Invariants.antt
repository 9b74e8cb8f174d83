use Rattle.std.proofs.Common.{◌≡◌, ◌&&◌, ◌||◌, drop}
use Rattle.tokens.specs.Trees.{trees_view}
use Rattle.warnings.specs.Before.{begin_with_group, hold_serde}
use Rattle.warnings.proofs.paths.+serde.Given as goal

-- what is left, with the word before it, holds it where the whole does
abbrev pub invariant-hold_serde-loop-tree : goal.invariant-hold_serde-loop-tree
invariant-hold_serde-loop-tree l = (l.after_word && begin_with_group (trees_view (drop l.tree-index l.trees)) || hold_serde (trees_view (drop l.tree-index l.trees))) ≡ hold_serde (trees_view l.trees)
