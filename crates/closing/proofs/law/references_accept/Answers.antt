use Rattle.closing.proofs.InstanceDescribed.{references_accept}
use Rattle.closing.proofs.law.references_accept.Goals as goal

pub returns : goal.returns
returns c = references_accept c.forms_accept.ensures
