use Rattle.type_grammar.proofs.Unique.{type_one}
use Rattle.type_grammar.proofs.read.one_type.Goals as goal

pub returns : goal.returns
returns c = λ ws rest other t u r stops s ends. type_one r stops s ends
