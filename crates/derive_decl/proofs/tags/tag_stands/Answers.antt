use Rattle.std.proofs.Common.{not, ap, sym}
use Rattle.std.proofs.lemmas.Bool.{and_from}
use Rattle.shapes.specs.Views.{form_view}
use Rattle.derive_decl.specs.Tags.{can_be_tagged, tag_is_taken}
use Rattle.derive_decl.proofs.tags.tag_stands.Goals as goal

pub returns-then-not-tag_is_taken-clause-stands : goal.returns-then-not-tag_is_taken-clause-stands
returns-then-not-tag_is_taken-clause-stands c =
    let tagging = c.args.tagging.now in
    let form = form_view c.args.form.now in
    and_from (can_be_tagged tagging form) (not (tag_is_taken tagging form)) (sym c.if-not-can_be_tagged.ensures) (ap not (sym c.if-not-tag_is_taken.ensures))
