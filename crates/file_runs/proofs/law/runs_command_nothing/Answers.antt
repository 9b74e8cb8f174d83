use Rattle.file_runs.proofs.Quiet.{commands_nothing}
use Rattle.file_runs.proofs.law.runs_command_nothing.Goals as goal

pub returns : goal.returns
returns c = commands_nothing c.reports_command_nothing.ensures.printable c.reports_command_nothing.ensures.both
