use Rattle.std.proofs.Common.{◌≡◌, ◌+◌, ◌≤◌, length, map}
use Rattle.tokens.specs.Trees.{tree_view}
use Rattle.prepare.specs.declared.previous.Behind.TheVariants.{Other}
use Rattle.prepare.specs.Ends.{after_block}
use Rattle.prepare.proofs.ends.after_block.Given as goal

abbrev pub invariant-trees : goal.invariant-trees
invariant-trees l = (after_block l.was l.opened (map tree_view l.rest) ≡ after_block Other 0 (map tree_view l.trees)) × (l.opened + length l.rest ≤ length l.trees)

abbrev pub decreases-trees : goal.decreases-trees
decreases-trees l = length l.rest
