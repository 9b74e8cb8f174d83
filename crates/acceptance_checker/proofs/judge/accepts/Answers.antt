use Rattle.std.proofs.Common.{◌∙◌, ap}
use Rattle.acceptance.specs.Acceptance.{accepts}
use Rattle.acceptance.specs.Data.{json_of}
use Rattle.schema_trees.proofs.Laws.{read-data}
use Rattle.acceptance_checker.proofs.judge.accepts.Goals as goal

pub returns : goal.returns
returns c =
    let document = ap json_of c.value-3.ensures.value ∙ read-data c.args.document.now in
    let schema = c.layer_of-schema.ensures ∙ ap json_of c.value.ensures.value ∙ read-data c.args.schema.now in
    let value = c.layer_of-value.ensures ∙ ap json_of c.value-2.ensures.value ∙ read-data c.args.value.now in
    c.schema_accepts.ensures ∙ λ i. accepts (document i) (schema i) (value i) c.args.depth
