use Rattle.std.proofs.Common.{◌≡◌, length, map}
use Rattle.tokens.specs.Trees.{tree_view}
use Rattle.prepare.specs.Attributes.{after_inner}
use Rattle.prepare.proofs.attributes.after_inner.Given as goal

abbrev pub invariant-inner : goal.invariant-inner
invariant-inner l = after_inner (map tree_view l.rest) ≡ after_inner (map tree_view l.trees)

abbrev pub decreases-inner : goal.decreases-inner
decreases-inner l = length l.rest
