use Rattle.std.proofs.Common.{◌<◌, length, arith}
use Rattle.inlining.proofs.Among.{among_at}
use Rattle.inlining.proofs.Marks.{are_marked_more}
use Rattle.inlining.proofs.order.unmarked_target.Goals as goal

pub bounds-marks-target : goal.bounds-marks-target
bounds-marks-target c = c.requires _ (among_at c.args.targets.now c.loop-target.target-index 0 (omega arith))

pub returns-then-not-marks-target : goal.returns-then-not-marks-target
returns-then-not-marks-target c = (among_at c.args.targets.now c.loop-target.target-index 0 (omega arith), c.if-not-marks-target.true)

pub loop-target-preserved : goal.loop-target-preserved
loop-target-preserved c =
    let at : c.loop-target.target-index < length c.args.targets.now = omega arith in
    are_marked_more c.args.marks.now c.args.targets.now c.loop-target.target-index 0 at c.loop-target.invariant c.if-not-marks-target.false
