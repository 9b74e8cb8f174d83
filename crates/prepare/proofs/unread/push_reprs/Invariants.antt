use Rattle.std.proofs.Common.{◌≡◌, ◌++◌, length, map}
use Rattle.tokens.specs.Trees.{tree_view}
use Rattle.prepare.specs.Unread.{repr_spans}
use Rattle.prepare.proofs.unread.push_reprs.Given as goal

abbrev pub invariant-trees : goal.invariant-trees
invariant-trees l = l.spans ++ repr_spans (map tree_view l.rest) ≡ l.initial.spans ++ repr_spans (map tree_view l.attributes)

abbrev pub decreases-trees : goal.decreases-trees
decreases-trees l = length l.rest
