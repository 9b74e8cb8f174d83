use Rattle.std.proofs.Common.{◌≡◌, ◌+◌, ◌≤◌, length, map}
use Rattle.tokens.specs.Trees.{tree_view}
use Rattle.prepare.specs.declared.previous.Behind.TheVariants.{Other}
use Rattle.prepare.specs.Fields.{from_comma}
use Rattle.prepare.proofs.fields.from_comma.Given as goal

abbrev pub invariant-trees : goal.invariant-trees
invariant-trees l = (from_comma l.in_types l.was l.opened (map tree_view l.rest) ≡ from_comma l.in_types Other 0 (map tree_view l.trees)) × (l.opened + length l.rest ≤ length l.trees)

abbrev pub decreases-trees : goal.decreases-trees
decreases-trees l = length l.rest
