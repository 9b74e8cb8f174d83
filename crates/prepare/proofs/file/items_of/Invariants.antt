use Rattle.prepare.specs.Reading.{to_read}
use Rattle.prepare.proofs.Found.{Gone}
use Rattle.prepare.proofs.file.items_of.Given as goal

abbrev pub invariant-reading : goal.invariant-reading
invariant-reading l = Gone l.initial.reading l.reading l.standing

abbrev pub decreases-reading : goal.decreases-reading
decreases-reading l = to_read l.reading
