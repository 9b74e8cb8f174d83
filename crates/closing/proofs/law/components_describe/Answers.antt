use Rattle.closing.proofs.Exclusive.{components-exclude}
use Rattle.closing.proofs.InstanceDescribed.{describes}
use Rattle.closing.proofs.law.components_describe.Goals as goal

pub returns : goal.returns
returns c = λ ss all cs apart names shallow made keyword.
    describes keyword c.forms_accept.ensures c.documents_hold.ensures ss all cs apart made c.instance_terms_accept.ensures c.types_stay_without_arguments.ensures shallow c.forms_refer.ensures names
    (components-exclude c.forms_accept.ensures c.documents_hold.ensures c.one_of_holds.ensures c.schemas_tell.ensures.told c.schemas_tell.ensures.names c.schemas_tell.ensures.tags
    c.variants_are_told.ensures.one c.schemas_tell.ensures.numbers c.variants_are_told.ensures.number keyword ss cs all apart made)
