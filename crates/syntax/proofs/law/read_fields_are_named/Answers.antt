use Rattle.syntax.proofs.Named.{source_named}
use Rattle.syntax.proofs.law.read_fields_are_named.Goals as goal

pub returns : goal.returns
returns c = λ source ds read. source_named read.2
