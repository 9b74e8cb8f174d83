use Rattle.std.proofs.Common.{◌≡◌, take}
use Rattle.inlining.proofs.shown.Shown.new.Given as goal

-- the marks so far
abbrev pub invariant-loop-mark : goal.invariant-loop-mark
invariant-loop-mark l = record {
  marks : l.shown.marks ≡ take l.mark-index l.marks;
  components : l.shown.components ≡ l.fn.components;
}
