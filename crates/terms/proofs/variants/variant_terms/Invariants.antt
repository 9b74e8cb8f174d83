use Rattle.std.proofs.Common.{◌≡◌, map, take}
use Rattle.component.specs.Leaves.{term_view}
use Rattle.terms.specs.Terms.{variant_term}
use Rattle.shapes.specs.Views.{variant_view}
use Rattle.terms.proofs.variants.variant_terms.Given as goal

-- the schemas so far are those of the variants so far
abbrev pub invariant-loop-variant : goal.invariant-loop-variant
invariant-loop-variant l = map term_view l.items ≡ map (λ x. variant_term l.tagging (variant_view x)) (take l.variant-index l.variants)
