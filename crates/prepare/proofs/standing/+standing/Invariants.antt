use Rattle.std.proofs.Common.{◌≤◌, ◌+◌, ◌*◌, length, map}
use Rattle.tokens.specs.Trees.{tree_view, trees_view, depth}
use Rattle.prepare.specs.Items.{item_view}
use Rattle.prepare.specs.Standing.{StandUpTo}
use Rattle.prepare.proofs.Stands.{item_depth}
use Rattle.prepare.proofs.standing.+standing.Given as goal

abbrev pub invariant-pass_items-items : goal.invariant-pass_items-items
invariant-pass_items-items l = StandUpTo (map tree_view l.trees) (map tree_view l.rest) l.standing × (depth (trees_view l.rest) ≤ depth (trees_view l.trees))

abbrev pub decreases-pass_items-items : goal.decreases-pass_items-items
decreases-pass_items-items l = length l.rest

abbrev pub decreases-stand_in : goal.decreases-stand_in
decreases-stand_in l = item_depth (item_view l.item)

abbrev pub decreases-pass_items : goal.decreases-pass_items
decreases-pass_items l = 4 * depth (trees_view l.trees.now) + 1

abbrev pub decreases-are_items : goal.decreases-are_items
decreases-are_items l = 4 * depth (trees_view l.trees.now) + 2

abbrev pub decreases-stand_inside : goal.decreases-stand_inside
decreases-stand_inside l = 4 * depth (trees_view l.trees.now) + 3
