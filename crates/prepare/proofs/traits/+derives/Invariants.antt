use Rattle.std.proofs.Common.{◌≡◌, ◌≤◌, ◌+◌, ◌*◌, length}
use Rattle.tokens.specs.Trees.{trees_view, depth}
use Rattle.prepare.specs.Traits.{derives}
use Rattle.prepare.proofs.traits.+derives.Given as goal

abbrev pub invariant-derives-trees : goal.invariant-derives-trees
invariant-derives-trees l = (derives l.traits (trees_view l.rest) ≡ derives l.traits (trees_view l.trees)) × (depth (trees_view l.rest) ≤ depth (trees_view l.trees))

abbrev pub decreases-derives-trees : goal.decreases-derives-trees
decreases-derives-trees l = length l.rest

abbrev pub decreases-derives : goal.decreases-derives
decreases-derives l = 2 * depth (trees_view l.trees.now) + 1

abbrev pub decreases-group_derives : goal.decreases-group_derives
decreases-group_derives l = 2 * depth (trees_view l.rest.now)
