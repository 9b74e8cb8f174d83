use Rattle.std.proofs.Common.{◌≡◌, length, map}
use Rattle.tokens.specs.Trees.{tree_view}
use Rattle.prepare.specs.Attributes.{after_attributes}
use Rattle.prepare.proofs.attributes.after_attributes.Given as goal

abbrev pub invariant-attributes : goal.invariant-attributes
invariant-attributes l = after_attributes (map tree_view l.rest) ≡ after_attributes (map tree_view l.trees)

abbrev pub decreases-attributes : goal.decreases-attributes
decreases-attributes l = length l.rest
