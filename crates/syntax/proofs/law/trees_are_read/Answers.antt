use Rattle.syntax.proofs.Answered.{found, shallow}
use Rattle.syntax.proofs.law.trees_are_read.Goals as goal

pub returns : goal.returns
returns c = λ source trees ds cut low read. (found source trees ds cut read, λ span. shallow c.one_cut.ensures c.deep_brackets_nest_deep.ensures source trees ds span cut low read)
