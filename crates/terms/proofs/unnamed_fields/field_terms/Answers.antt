use Rattle.std.proofs.Common.{◌≡◌, ap, sym, ◌∙◌, map, take, arith}
use Rattle.std.proofs.lemmas.Grind.{common_steps}
use Rattle.std.proofs.lemmas.Simd.{map-map}
use Rattle.open_types.specs.Open.{open_view}
use Rattle.schema_trees.specs.Schema.{schemas_of}
use Rattle.shapes.specs.Declarations.{unannotated}
use Rattle.terms.specs.Terms.{field_term}
use Rattle.terms.proofs.unnamed_fields.field_terms.Goals as goal

pub returns : goal.returns
returns c =
    let whole : take c.loop-ty.ty-index c.args.types.now ≡ c.args.types.now = grind (arith, common_steps) in
    ap schemas_of (c.loop-ty.invariant ∙ ap (map (λ t. field_term unannotated (open_view t))) whole ∙ sym (map-map (field_term unannotated) open_view c.args.types.now))
