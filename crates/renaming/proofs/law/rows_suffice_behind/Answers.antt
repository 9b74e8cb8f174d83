use Rattle.renaming.proofs.Rowless as rowless
use Rattle.renaming.proofs.law.rows_suffice_behind.Goals as goal

pub returns : goal.returns
returns c = rowless.rows_suffice_behind c.rules_have_own_names.ensures
