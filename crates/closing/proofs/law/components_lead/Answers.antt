use Rattle.closing.proofs.InstanceDescribed.{component-leads}
use Rattle.closing.proofs.law.components_lead.Goals as goal

pub returns : goal.returns
returns c = component-leads c.types_stay_without_arguments.ensures
