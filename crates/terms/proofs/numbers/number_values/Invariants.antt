use Rattle.std.proofs.Common.{◌≡◌, map, take}
use Rattle.acceptance.specs.Json.{number}
use Rattle.terms.proofs.numbers.number_values.Given as goal

-- the values so far are those of the numbers so far
abbrev pub invariant-loop-number : goal.invariant-loop-number
invariant-loop-number l = l.values ≡ map number (take l.number-index l.numbers)
