use Rattle.lexing.proofs.Lying as lying
use Rattle.lexing.proofs.law.trees_lie.Goals as goal

pub returns : goal.returns
returns c = lying.trees_lie
