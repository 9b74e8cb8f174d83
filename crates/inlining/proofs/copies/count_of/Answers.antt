use Rattle.std.proofs.Common.{◌<◌, ◌∙◌, ◌+◌, length, get_or, slice_index, ap, arith, rules}
use Rattle.inlining.specs.Counts.{saturated}
use Rattle.inlining.proofs.Among.{among_at}
use Rattle.inlining.proofs.Counts.{count_more}
use Rattle.inlining.proofs.copies.count_of.Goals as goal

pub bounds-counts-target : goal.bounds-counts-target
bounds-counts-target c = c.requires _ (among_at c.args.targets.now c.loop-target.target-index 0 (omega arith))

pub offset_bounds-counts-target : goal.offset_bounds-counts-target
offset_bounds-counts-target c =
    let within : get_or c.args.targets.now c.loop-target.target-index 0 < length c.args.counts.now = c.requires _ (among_at c.args.targets.now c.loop-target.target-index 0 (omega arith)) in
    search rules

pub loop-target-preserved : goal.loop-target-preserved
loop-target-preserved c =
    let at : c.loop-target.target-index < length c.args.targets.now = omega arith in
    c.saturating_add-count.ensures
    ∙ ap (λ n. saturated (n + slice_index c.args.counts.now (get_or c.args.targets.now c.loop-target.target-index 0))) c.loop-target.invariant
    ∙ count_more c.args.counts.now c.args.targets.now c.loop-target.target-index 0 at
