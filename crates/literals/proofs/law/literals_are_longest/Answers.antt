use Rattle.literals.proofs.LiteralLaws.{literal_sound, literal_reads}
use Rattle.literals.proofs.law.literals_are_longest.Goals as goal

pub returns-clause-sound : goal.returns-clause-sound
returns-clause-sound c = literal_sound

pub returns-clause-longest : goal.returns-clause-longest
returns-clause-longest c = literal_reads
