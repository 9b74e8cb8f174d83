use Rattle.telling.proofs.Commands.{printable_commands_nothing, both_command_nothing}
use Rattle.telling.proofs.law.reports_command_nothing.Goals as goal

pub returns-clause-printable : goal.returns-clause-printable
returns-clause-printable c = printable_commands_nothing

pub returns-clause-both : goal.returns-clause-both
returns-clause-both c = both_command_nothing
