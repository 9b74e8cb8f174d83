use Rattle.std.proofs.Common.{◌≡◌, take}
use Rattle.std.specs.List.{flat_map}
use Rattle.telling.specs.Told.{told_lines}
use Rattle.telling.proofs.told.first_told.Given as goal

-- each one so far stands behind the one before it
abbrev pub invariant-loop-one : goal.invariant-loop-one
invariant-loop-one l = l.text ≡ flat_map told_lines (take l.one-index l.one-items)
