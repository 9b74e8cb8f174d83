use Rattle.std.proofs.Common.{◌<◌, ◌∙◌, ◌+◌, length, get_or, slice_index, ap, arith, rules}
use Rattle.inlining.specs.Counts.{saturated}
use Rattle.inlining.proofs.Among.{among_at}
use Rattle.inlining.proofs.Counts.{total_more}
use Rattle.inlining.proofs.copies.total_of.Goals as goal

pub bounds-counts-number : goal.bounds-counts-number
bounds-counts-number c = c.requires _ (among_at c.args.counted.now c.loop-number.number-index 0 (omega arith))

pub offset_bounds-counts-number : goal.offset_bounds-counts-number
offset_bounds-counts-number c =
    let within : get_or c.args.counted.now c.loop-number.number-index 0 < length c.args.counts.now = c.requires _ (among_at c.args.counted.now c.loop-number.number-index 0 (omega arith)) in
    search rules

pub loop-number-preserved : goal.loop-number-preserved
loop-number-preserved c =
    let at : c.loop-number.number-index < length c.args.counted.now = omega arith in
    c.saturating_add-total.ensures
    ∙ ap (λ n. saturated (n + slice_index c.args.counts.now (get_or c.args.counted.now c.loop-number.number-index 0))) c.loop-number.invariant
    ∙ total_more c.args.counts.now c.args.counted.now c.loop-number.number-index 0 at
