use Rattle.closing.proofs.InstanceDescribed.{shown-reachable, component-shown}
use Rattle.closing.proofs.law.components_are_reachable.Goals as goal

pub returns : goal.returns
returns c = λ ss all t is. shown-reachable c.types_stay_without_arguments.ensures ss all t (component-shown c.types_stay_without_arguments.ensures ss all t is)
