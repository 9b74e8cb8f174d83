use Rattle.std.proofs.Common.{[], ◌∷◌, map, ap, ◌∙◌}
use Rattle.schema_trees.specs.Schema.{SchemasOf, tree_views, schema, no_schemas}
use Rattle.component.specs.Leaves.{LeafOf, leaf_view}
use Rattle.shapes.specs.Declarations.{BesideOf, others_of}
use Rattle.shapes.specs.Views.{member_view, beside_view}
use Rattle.terms.specs.Terms.{own_beside, flattened_terms, tag_alone}
use Rattle.terms.proofs.Joined.{joined, views-joined, flattened-joined, own-joined}
use Rattle.terms.proofs.named_fields.NamedFields.tagged_items.Goals as goal

pub returns : goal.returns
returns c =
    let b : BesideOf = beside_view c.args.self.denies_others c.args.self.beside.now in
    let ms = map member_view c.args.self.members.now in
    let last : SchemasOf LeafOf = schema (tag_alone c.in_ok-keywords.keywords c.args.tag.now c.args.name.now) no_schemas in
    ap (tree_views leaf_view) c.in_ok-push.ensures.ok
    ∙ views-joined c.in_ok-items.items (c.in_ok-last.last ∷ [])
    ∙ ap (λ s. joined (tree_views leaf_view c.in_ok-items.items) (schema s no_schemas)) c.in_ok-last.ensures
    ∙ ap (λ ss. joined ss last) c.in_ok-items.ensures
    ∙ flattened-joined b.flattened (own_beside b.map (others_of b) ms no_schemas) last
    ∙ ap (flattened_terms b.flattened) (own-joined b.map (others_of b) ms last)
    ∙ ap (λ k. flattened_terms b.flattened (own_beside b.map (others_of b) ms (schema (tag_alone k c.args.tag.now c.args.name.now) no_schemas))) c.in_ok-keywords.ensures
