use Rattle.schema_core.specs.Form.{values_form}
use Rattle.schema_core.proofs.form.put_keywords.Goals as goal

pub returns : goal.returns
returns c =
    λ ms h.
    let e2 = c.in_ok-put_text-2.ensures _ (c.in_ok-put_text.ensures ms h) in
    let e4 = c.in_ok-put_json-2.ensures _ (c.in_ok-put_json.ensures _ e2) in
    let e5 = c.in_ok-put_given.ensures (values_form c.args.keywords.now.examples) c.in_ok-examples.ensures _ e4 in
    let e8 = c.in_ok-put_truth-3.ensures _ (c.in_ok-put_truth-2.ensures _ (c.in_ok-put_truth.ensures _ e5)) in
    c.in_ok-put_text-4.ensures _ (c.in_ok-put_text-3.ensures _ e8)
