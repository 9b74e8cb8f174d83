use Rattle.tokens.proofs.law.trees_are_equal_by_text.Goals as goal
use Rattle.tokens.proofs.Equal.{tokens_equal, groups_equal, trees_equal}

pub returns : goal.returns
returns c = record { token = tokens_equal; group = groups_equal; tree = trees_equal }
