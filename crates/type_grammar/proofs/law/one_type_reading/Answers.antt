use Rattle.type_grammar.proofs.TypeText.{one_type}
use Rattle.type_grammar.proofs.law.one_type_reading.Goals as goal

pub returns : goal.returns
returns c = one_type c.one_cut.ensures
