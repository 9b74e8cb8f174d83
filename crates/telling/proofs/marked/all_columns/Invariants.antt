use Rattle.std.proofs.Common.{◌≡◌, ◌≤◌, ◌*◌, sum_by, take}
use Rattle.telling.specs.Told.{columns}
use Rattle.telling.proofs.marked.all_columns.Given as goal

-- the columns of those so far, ten for each at most
abbrev pub invariant-loop-c : goal.invariant-loop-c
invariant-loop-c l = (l.all ≡ sum_by columns (take l.c-index l.characters)) × (l.all ≤ 10 * l.c-index)
