use Rattle.std.proofs.Common.{◌≡◌, ◌++◌, length, map}
use Rattle.tokens.specs.Trees.{tree_view}
use Rattle.prepare.specs.Fields.{parts}
use Rattle.prepare.proofs.fields.parts.Given as goal

abbrev pub invariant-parts : goal.invariant-parts
invariant-parts l = map (λ part. map tree_view part.now) l.found.items ++ parts l.in_types (map tree_view l.rest) ≡ parts l.in_types (map tree_view l.trees)

abbrev pub decreases-parts : goal.decreases-parts
decreases-parts l = length l.rest
