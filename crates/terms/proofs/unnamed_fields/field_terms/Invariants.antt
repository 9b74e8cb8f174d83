use Rattle.std.proofs.Common.{◌≡◌, map, take}
use Rattle.open_types.specs.Open.{open_view}
use Rattle.component.specs.Leaves.{term_view}
use Rattle.shapes.specs.Declarations.{unannotated}
use Rattle.terms.specs.Terms.{field_term}
use Rattle.terms.proofs.unnamed_fields.field_terms.Given as goal

-- the schemas so far are those of the fields so far
abbrev pub invariant-loop-ty : goal.invariant-loop-ty
invariant-loop-ty l = map term_view l.terms ≡ map (λ t. field_term unannotated (open_view t)) (take l.ty-index l.types)
