use Rattle.std.proofs.Common.{◌≡◌, ◌++◌, ◌+◌, ◌≤◌, length, map, true}
use Rattle.tokens.specs.Trees.{tree_view}
use Rattle.prepare.specs.declared.previous.Behind.TheVariants.{Other}
use Rattle.prepare.specs.Parameters.{parameters_from}
use Rattle.prepare.proofs.parameters.push_parameters.Given as goal

abbrev pub invariant-trees : goal.invariant-trees
invariant-trees l =
    (l.names ++ parameters_from l.begins l.was l.opened (map tree_view l.rest) ≡ l.initial.names ++ parameters_from true Other 0 (map tree_view l.trees))
    × (l.opened + length l.rest ≤ length l.trees)

abbrev pub decreases-trees : goal.decreases-trees
decreases-trees l = length l.rest
