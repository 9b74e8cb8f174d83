use Rattle.std.proofs.Common.{◌∙◌, ap}
use Rattle.std.proofs.lemmas.Result.{on_ok_weaker}
use Rattle.schema_trees.specs.Schema.{named_views}
use Rattle.component.specs.Leaves.{leaf_view, term_view}
use Rattle.terms.specs.Terms.{with_property}
use Rattle.terms.proofs.TagLaws.{with-last}
use Rattle.terms.proofs.tagged.push_property.Goals as goal

pub returns : goal.returns
returns c =
    let ps = c.args.properties.now in
    on_ok_weaker c.push.result
    (λ pushed. ap (named_views leaf_view) pushed ∙ with-last ps c.in_ok-name.name c.args.schema
    ∙ ap (λ k. with_property (named_views leaf_view ps) k (term_view c.args.schema)) c.in_ok-name.ensures)
    c.push.ensures.ok
