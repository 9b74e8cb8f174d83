use Rattle.prepare.specs.Reading.{to_read}
use Rattle.prepare.proofs.Read.{ReadsOn}
use Rattle.prepare.proofs.reading.Reading.read_to_end.Given as goal

abbrev pub invariant-chunks : goal.invariant-chunks
invariant-chunks l = ReadsOn l.initial.self l.self

abbrev pub decreases-chunks : goal.decreases-chunks
decreases-chunks l = to_read l.self
