use Rattle.std.proofs.Common.{◌≡◌, ◌≤◌, ◌+◌, ◌*◌, true, length}
use Rattle.tokens.specs.Trees.{trees_view, depth}
use Rattle.prepare.specs.Attributes.{ask_for_tests}
use Rattle.prepare.proofs.attributes.+tests.Given as goal

abbrev pub invariant-ask_for_tests-trees : goal.invariant-ask_for_tests-trees
invariant-ask_for_tests-trees l = (ask_for_tests l.begins (trees_view l.rest) ≡ ask_for_tests true (trees_view l.trees)) × (depth (trees_view l.rest) ≤ depth (trees_view l.trees))

abbrev pub decreases-ask_for_tests-trees : goal.decreases-ask_for_tests-trees
decreases-ask_for_tests-trees l = length l.rest

abbrev pub decreases-ask_for_tests : goal.decreases-ask_for_tests
decreases-ask_for_tests l = 2 * depth (trees_view l.trees.now) + 1

abbrev pub decreases-asks_for_tests : goal.decreases-asks_for_tests
decreases-asks_for_tests l = 2 * depth (trees_view l.rest.now)
