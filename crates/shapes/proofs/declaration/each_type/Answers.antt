use Rattle.std.proofs.Common.{map, ◌∙◌, ap, sym}
use Rattle.std.proofs.lemmas.Iterator.{YieldsList-from_slice}
use Rattle.std.proofs.lemmas.Iterator.Consumers.{map_from_collect}
use Rattle.std.proofs.lemmas.Result.{IfOk-weaker}
use Rattle.std.proofs.lemmas.Simd.{map-map}
use Rattle.open_types.specs.Open.{open_view}
use Rattle.shapes.proofs.declaration.each_type.Goals as goal

pub returns : goal.returns
returns c =
    let each = map_from_collect _ c.collect.ensures.ran (YieldsList-from_slice c.args.types.now c.iter.ensures.rest) in
    IfOk-weaker c.collect.result _ _ (λ ts e. sym (map-map open_view (λ ty. ty.now) ts.items) ∙ ap (map open_view) e) each
