use Rattle.std.proofs.Common.{◌≡◌, [], length, reverse}
use Rattle.lexing.specs.Open.{open_behind}
use Rattle.lexing.proofs.brackets.innermost_open.Given as goal

abbrev pub invariant-pieces : goal.invariant-pieces
invariant-pieces l = open_behind (reverse l.unclosed.items) l.rest ≡ open_behind [] l.pieces

abbrev pub decreases-pieces : goal.decreases-pieces
decreases-pieces l = length l.rest
