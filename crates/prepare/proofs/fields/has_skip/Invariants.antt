use Rattle.std.proofs.Common.{◌≡◌, length, map}
use Rattle.tokens.specs.Trees.{tree_view}
use Rattle.std.specs.List.{list_any}
use Rattle.prepare.specs.Fields.{is_skip}
use Rattle.prepare.proofs.fields.has_skip.Given as goal

abbrev pub invariant-trees : goal.invariant-trees
invariant-trees l = list_any (is_skip l.wholly) (map tree_view l.rest) ≡ list_any (is_skip l.wholly) (map tree_view l.trees)

abbrev pub decreases-trees : goal.decreases-trees
decreases-trees l = length l.rest
