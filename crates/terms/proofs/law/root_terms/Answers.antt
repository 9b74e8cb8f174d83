use Rattle.terms.proofs.Roots.{root-terms}
use Rattle.terms.proofs.law.root_terms.Goals as goal

pub returns : goal.returns
returns c = root-terms c.types_stay_without_arguments.ensures
