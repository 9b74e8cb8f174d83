use Rattle.std.proofs.Common.{◌≡◌, ap, ap₂, ◌∙◌}
use Rattle.schema_trees.specs.Schema.{tree_views, no_schemas}
use Rattle.component.specs.Leaves.{leaf_view}
use Rattle.shapes.specs.Views.{beside_view}
use Rattle.terms.specs.Terms.{flattened_terms}
use Rattle.terms.proofs.Joined.{joined, views-joined, flattened-joined, whatever-denied}
use Rattle.terms.proofs.named_fields.NamedFields.items_beside.Goals as goal

pub returns : goal.returns
returns c =
    let denies = c.args.self.denies_others in
    let b = c.args.self.beside.now in
    let front : tree_views leaf_view c.in_ok-items.items ≡ flattened_terms (beside_view denies b).flattened no_schemas =
    c.in_ok-items.ensures ∙ ap (λ fs. flattened_terms fs no_schemas) (c.flattened_of.ensures ∙ whatever-denied denies b) in
    ap (tree_views leaf_view) c.in_ok-append.ensures.ok
    ∙ views-joined c.in_ok-items.items c.in_ok-own_items.field-0
    ∙ ap₂ joined front c.in_ok-own_items.ensures
    ∙ flattened-joined (beside_view denies b).flattened no_schemas _
