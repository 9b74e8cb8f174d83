use Rattle.std.proofs.Common.{◌≡◌, ap, sym, ◌∙◌, map, take, arith}
use Rattle.std.proofs.lemmas.Grind.{common_steps}
use Rattle.std.proofs.lemmas.Simd.{map-map}
use Rattle.schema_trees.specs.Schema.{schemas_of}
use Rattle.terms.specs.Terms.{variant_term}
use Rattle.shapes.specs.Views.{variant_view}
use Rattle.terms.proofs.variants.variant_terms.Goals as goal

pub returns : goal.returns
returns c =
    let whole : take c.loop-variant.variant-index c.args.variants.now ≡ c.args.variants.now = grind (arith, common_steps) in
    ap schemas_of (c.loop-variant.invariant ∙ ap (map (λ x. variant_term c.args.tagging.now (variant_view x))) whole
    ∙ sym (map-map (variant_term c.args.tagging.now) variant_view c.args.variants.now))
