use Rattle.terms.proofs.EnumsAccepted.{instance-terms-accept}
use Rattle.terms.proofs.law.instance_terms_accept.Goals as goal

pub returns : goal.returns
returns c = instance-terms-accept c.same_types_are_equal.ensures c.types_stay_without_arguments.ensures
