use Rattle.std.proofs.Common.{◌≡◌, ◌++◌, replicate, string_bytes}
use Rattle.prepare.proofs.blanks.push_blanks.Given as goal

abbrev pub invariant-blanks : goal.invariant-blanks
invariant-blanks l = string_bytes l.text ++ replicate l.left 32 ≡ string_bytes l.initial.text ++ replicate l.times 32

abbrev pub decreases-blanks : goal.decreases-blanks
decreases-blanks l = l.left
