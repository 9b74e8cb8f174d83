use Rattle.std.proofs.Common.{take}
use Rattle.closing.proofs.Kept.{AreLetGo}
use Rattle.closing.proofs.inlined.drop_done.Given as goal

-- the targets so far are let go where they are done
abbrev pub invariant-loop-target : goal.invariant-loop-target
invariant-loop-target l = AreLetGo l.fn.made.items l.made.items l.until (take l.target-index l.targets) l.turn
