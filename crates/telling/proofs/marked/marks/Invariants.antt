use Rattle.std.proofs.Common.{◌≡◌, take}
use Rattle.std.specs.List.{flat_map}
use Rattle.telling.specs.Told.{under}
use Rattle.telling.proofs.marked.marks.Given as goal

-- under each character so far stands what is to
abbrev pub invariant-loop-c : goal.invariant-loop-c
invariant-loop-c l = l.line ≡ flat_map under (take l.c-index l.front)
