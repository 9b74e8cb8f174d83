use Rattle.std.proofs.Common.{◌≡◌, ◌++◌, take}
use Rattle.std.specs.List.{flat_map}
use Rattle.renaming.specs.Cases.{parted}
use Rattle.renaming.proofs.cases.in_snake_case.Given as goal

abbrev pub invariant-loop-c : goal.invariant-loop-c
invariant-loop-c l = l.snake.items ≡ l.initial.snake.items ++ flat_map parted (take l.c-index l.rest)
