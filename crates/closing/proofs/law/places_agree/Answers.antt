use Rattle.schema_core.specs.declared.alternatives.Alternatives.TheVariants.{OneOf}
use Rattle.closing.proofs.InstanceDescribed.{places-agree}
use Rattle.closing.proofs.law.places_agree.Goals as goal

pub returns : goal.returns
returns c = λ ss all cs apart made t components. places-agree OneOf c.forms_accept.ensures c.documents_hold.ensures ss all cs apart made c.accepts_deeper.ensures t components
