use Rattle.std.proofs.Common.{◌≡◌, map, take}
use Rattle.component.specs.Leaves.{term_view}
use Rattle.terms.proofs.Joined.{flattened_in}
use Rattle.terms.proofs.flattened.flattened_terms.Given as goal

-- the schemas so far are those of the fields so far
abbrev pub invariant-loop-field : goal.invariant-loop-field
invariant-loop-field l = map term_view l.items ≡ map flattened_in (take l.field-index l.flattened)
