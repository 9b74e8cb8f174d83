use Rattle.std.proofs.Common.{◌≡◌, ◌++◌, ◌+◌, ◌≤◌, length, map, false}
use Rattle.tokens.specs.Trees.{tree_view}
use Rattle.prepare.specs.declared.previous.Behind.TheVariants.{Other}
use Rattle.prepare.specs.Unread.{default_spans}
use Rattle.prepare.proofs.unread.push_defaults.Given as goal

abbrev pub invariant-trees : goal.invariant-trees
invariant-trees l =
    (l.spans ++ default_spans l.inside l.was l.opened (map tree_view l.rest) ≡ l.initial.spans ++ default_spans false Other 0 (map tree_view l.trees))
    × (l.opened + length l.rest ≤ length l.trees)

abbrev pub decreases-trees : goal.decreases-trees
decreases-trees l = length l.rest
