use Rattle.terms.proofs.EnumsAccepted.{terms-accept}
use Rattle.terms.proofs.law.terms_accept.Goals as goal

pub returns : goal.returns
returns c = terms-accept c.same_types_are_equal.ensures c.types_stay_without_arguments.ensures
