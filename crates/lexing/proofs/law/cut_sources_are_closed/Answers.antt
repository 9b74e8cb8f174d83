use Rattle.lexing.proofs.OpenLaws.{closed_source}
use Rattle.lexing.proofs.law.cut_sources_are_closed.Goals as goal

pub returns : goal.returns
returns c = closed_source
