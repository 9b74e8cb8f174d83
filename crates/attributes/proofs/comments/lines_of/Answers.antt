use Rattle.std.proofs.Common.{◌∙◌, ap, unwrap_or}
use Rattle.attributes.proofs.Margins.{lines_of_all}
use Rattle.attributes.proofs.comments.lines_of.Goals as goal

pub returns : goal.returns
returns c =
    c.loop-doc.invariant
    ∙ lines_of_all c.args.docs.now c.loop-doc.doc-index c.unwrap_or-margin.result c.loop-doc-test.false (c.unwrap_or-margin.ensures ∙ ap (λ least. unwrap_or least 0) c.margin.ensures)
