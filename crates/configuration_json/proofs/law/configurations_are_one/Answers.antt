use Rattle.configuration_json.proofs.OneLaws.{one_configuration, one_text}
use Rattle.configuration_json.proofs.law.configurations_are_one.Goals as goal

pub returns-clause-of_value : goal.returns-clause-of_value
returns-clause-of_value c = one_configuration c.rules_have_own_names.ensures c.one_type_reading.ensures

pub returns-clause-of_text : goal.returns-clause-of_text
returns-clause-of_text c = one_text c.rules_have_own_names.ensures c.one_type_reading.ensures
