use Rattle.file_runs.proofs.Saying.{refused_read}
use Rattle.file_runs.proofs.configured.config_of.Goals as goal

pub returns-in-Some-clause-refused : goal.returns-in-Some-clause-refused
returns-in-Some-clause-refused c = refused_read _ _ _ _ _ c.in-Some.is c.as_slice.ensures c.from_slice.ensures.refused
