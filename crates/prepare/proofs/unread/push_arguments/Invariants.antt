use Rattle.std.proofs.Common.{◌≡◌, ◌++◌, ◌+◌, ◌≤◌, length}
use Rattle.tokens.specs.Trees.{trees_view}
use Rattle.prepare.specs.declared.previous.Behind.TheVariants.{Other}
use Rattle.prepare.specs.Unread.{arguments_from}
use Rattle.prepare.proofs.unread.push_arguments.Given as goal

abbrev pub invariant-trees : goal.invariant-trees
invariant-trees l =
    (l.spans ++ arguments_from l.was l.opened (trees_view l.rest) ≡ l.initial.spans ++ arguments_from Other 0 (trees_view l.trees))
    × (l.opened + length l.rest ≤ length l.trees)

abbrev pub decreases-trees : goal.decreases-trees
decreases-trees l = length l.rest
