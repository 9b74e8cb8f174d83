use Rattle.std.proofs.Common.{◌<◌, length, arith}
use Rattle.open_types.specs.Open.{open_view}
use Rattle.shapes.proofs.Types.{types_more}
use Rattle.shapes.proofs.declaration.variant_types.Goals as goal

pub loop-variant-preserved : goal.loop-variant-preserved
loop-variant-preserved c =
    let variants = c.args.variants.now in
    let at = c.loop-variant.variant-index in
    let lt : at < length variants = omega arith in
    rw c.in_ok-append.ensures.items (types_more (λ ty. open_view ty.now) variants at c.variant-item.result c.loop-variant.types.items _ lt c.variant-item.is c.loop-variant.invariant c.in_ok-of_variant.ensures)
