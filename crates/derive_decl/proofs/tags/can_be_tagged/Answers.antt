use Rattle.std.proofs.Common.{◌∙◌, List, map, ap, sym}
use Rattle.open_types.specs.declared.open_type.OpenType.{OpenType}
use Rattle.open_types.specs.Open.{open_view}
use Rattle.shapes.specs.declared.tagging.Tagging.TheVariants.{Internal}
use Rattle.shapes.specs.Declarations.{unnamed_fields}
use Rattle.derive_decl.specs.Tags.{can_be_tagged}
use Rattle.shapes.specs.Views.{form_view}
use Rattle.derive_decl.proofs.tags.can_be_tagged.Goals as goal

pub returns-in-Internal-Unnamed : goal.returns-in-Internal-Unnamed
returns-in-Internal-Unnamed c =
    c.have_members.ensures c.in-Internal-Unnamed.tag-0
    ∙ ap (λ (ts : List OpenType). can_be_tagged (Internal c.in-Internal-Unnamed.tag-0) (unnamed_fields (map open_view ts))) c.as_slice.ensures
    ∙ sym (λ i. can_be_tagged (c.in-Internal-Unnamed.is-0 i) (form_view (c.in-Internal-Unnamed.is-1 i)))
