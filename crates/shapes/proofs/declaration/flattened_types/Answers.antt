use Rattle.std.proofs.Common.{◌∙◌, sym, rules}
use Rattle.std.proofs.lemmas.Iterator.{YieldsList-from_slice, YieldsList-from_map_by}
use Rattle.std.proofs.lemmas.Iterator.Consumers.{YieldsList-at, map_from_collect}
use Rattle.std.proofs.lemmas.Result.{IfOk-weaker}
use Rattle.std.proofs.lemmas.Simd.{map-map}
use Rattle.open_types.specs.Open.{open_view}
use Rattle.shapes.specs.Declarations.{FlattenedOf}
use Rattle.shapes.specs.Views.{flattened_view}
use Rattle.shapes.proofs.declaration.flattened_types.Goals as goal

pub returns : goal.returns
returns c =
    let each = YieldsList-at c.map.ensures.source (YieldsList-from_slice c.args.flattened.now c.iter.ensures.rest) in
    let types = map_from_collect _ c.collect.ensures.ran (YieldsList-from_map_by _ (λ ty. open_view ty.now) (λ f. open_view f.ty) each c.map.ensures.closure (λ x r q k. search rules)) in
    IfOk-weaker c.collect.result _ _ (λ ts e. e ∙ sym (map-map (λ (f : FlattenedOf). f.of) flattened_view c.args.flattened.now)) types
