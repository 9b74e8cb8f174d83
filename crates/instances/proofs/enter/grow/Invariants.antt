use Rattle.std.proofs.Common.{◌≡◌, ◌≤◌, ◌-◌, ℕ, length, get_or, false}
use Rattle.instances.proofs.enter.grow.Given as goal

-- the marks before, and behind them none that is set
abbrev pub invariant-loop-marks : goal.invariant-loop-marks
invariant-loop-marks l = record {
  few : length l.marks.items ≤ l.many;
  same : (n : ℕ) → get_or l.marks.items n false ≡ get_or l.initial.marks.items n false;
}

abbrev pub decreases-loop-marks : goal.decreases-loop-marks
decreases-loop-marks l = l.many - length l.marks.items
