use Rattle.configuration_json.proofs.SaidLaws.{said_in_text}
use Rattle.configuration_json.proofs.law.configurations_are_said.Goals as goal

pub returns : goal.returns
returns c = said_in_text
