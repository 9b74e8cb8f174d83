use Rattle.renaming.proofs.Rowless as rowless
use Rattle.renaming.proofs.law.rows_are_wanted.Goals as goal

pub returns : goal.returns
returns c = rowless.rows_are_wanted
