use Rattle.std.proofs.Common.{◌∙◌, ap}
use Rattle.acceptance.specs.Acceptance.{component_accepts}
use Rattle.acceptance.specs.Data.{json_of}
use Rattle.schema_trees.proofs.Laws.{read-data}
use Rattle.acceptance_checker.proofs.judge.component_accepts.Goals as goal

pub returns : goal.returns
returns c =
    let document = ap json_of c.value.ensures.value ∙ read-data c.args.document.now in
    let value = c.layer_of.ensures ∙ ap json_of c.value-2.ensures.value ∙ read-data c.args.value.now in
    c.component_holds.ensures ∙ λ i. component_accepts (document i) c.args.depth c.args.name.now (value i)
