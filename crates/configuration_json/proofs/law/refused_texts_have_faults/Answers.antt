use Rattle.configuration_json.proofs.SaidLaws.{text_fault}
use Rattle.configuration_json.proofs.law.refused_texts_have_faults.Goals as goal

pub returns : goal.returns
returns c = text_fault
