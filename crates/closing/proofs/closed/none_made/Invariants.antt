use Rattle.std.proofs.Common.{◌≡◌, length}
use Rattle.closing.proofs.closed.none_made.Given as goal

-- one for each turn so far
abbrev pub invariant-loop : goal.invariant-loop
invariant-loop l = length l.made.items ≡ l.counter
