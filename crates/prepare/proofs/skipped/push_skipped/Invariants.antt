use Rattle.std.proofs.Common.{◌≡◌, ◌++◌, ◌+◌, ◌≤◌, length, map, true, false}
use Rattle.tokens.specs.Trees.{tree_view}
use Rattle.prepare.specs.declared.previous.Behind.TheVariants.{Other}
use Rattle.prepare.specs.Skipped.{skipped_from}
use Rattle.prepare.proofs.skipped.push_skipped.Given as goal

abbrev pub invariant-trees : goal.invariant-trees
invariant-trees l =
    (l.spans ++ skipped_from l.begins l.skips l.was l.opened (map tree_view l.rest) ≡ l.initial.spans ++ skipped_from true false Other 0 (map tree_view l.trees))
    × (l.opened + length l.rest ≤ length l.trees)

abbrev pub decreases-trees : goal.decreases-trees
decreases-trees l = length l.rest
