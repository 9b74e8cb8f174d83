use Rattle.file_runs.proofs.Told.{sound_run}
use Rattle.file_runs.proofs.law.sound_runs_are_not_refused.Goals as goal

pub returns : goal.returns
returns c = sound_run c.configurations_are_one.ensures.of_text c.sound_are_not_told.ensures
