use Rattle.renaming.proofs.Serving as serving
use Rattle.renaming.proofs.law.rows_serve.Goals as goal

pub returns : goal.returns
returns c = serving.rows_serve c.rules_have_own_names.ensures
