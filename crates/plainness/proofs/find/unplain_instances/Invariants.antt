use Rattle.std.proofs.Common.{map, take}
use Rattle.shapes.specs.Views.{declaration_view}
use Rattle.plainness.specs.Unplain.{AreUnplain}
use Rattle.plainness.proofs.find.unplain_instances.Given as goal

-- those of the instances so far
abbrev pub invariant-loop-number : goal.invariant-loop-number
invariant-loop-number l = AreUnplain (map declaration_view l.declared) (take l.number l.reach) l.unplain
