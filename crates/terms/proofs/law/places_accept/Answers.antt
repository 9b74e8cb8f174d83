use Rattle.terms.proofs.EnumsAccepted.{places-accept}
use Rattle.terms.proofs.law.places_accept.Goals as goal

pub returns : goal.returns
returns c = places-accept c.types_stay_without_arguments.ensures
