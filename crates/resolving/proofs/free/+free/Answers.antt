use Rattle.std.proofs.Common.{arith}
use Rattle.std.proofs.lemmas.Grind.{common_steps}
use Rattle.resolving.proofs.free.+free.Goals as goal

pub hold_free-returns-then-holds_free : goal.hold_free-returns-then-holds_free
hold_free-returns-then-holds_free t c = grind (arith, common_steps)

pub hold_free-loop-ty-preserved : goal.hold_free-loop-ty-preserved
hold_free-loop-ty-preserved t c = grind (arith, common_steps)

pub hold_free-returns : goal.hold_free-returns
hold_free-returns t c = grind (arith, common_steps)
