use Rattle.type_grammar.proofs.Unique.{bound_one}
use Rattle.type_grammar.proofs.read.one_bound.Goals as goal

pub returns : goal.returns
returns c = λ ws rest other at to r stops s ends. bound_one r stops s ends
