use Rattle.std.proofs.Common.{◌≡◌, length}
use Rattle.file_derivation.specs.LeftOut.{faulty_names}
use Rattle.file_derivation.proofs.rounds.has_fault.Given as goal

abbrev pub invariant-judged : goal.invariant-judged
invariant-judged l = faulty_names l.rest ≡ faulty_names l.judged

abbrev pub decreases-judged : goal.decreases-judged
decreases-judged l = length l.rest
