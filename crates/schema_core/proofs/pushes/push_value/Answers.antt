use Rattle.std.proofs.Common.{◌++◌, ap, ◌∙◌, string_bytes}
use Rattle.serde_json.specs.Written.{has_float, compact_text}
use Rattle.schema_core.proofs.Puts.{has_no_float}
use Rattle.schema_core.proofs.pushes.push_value.Goals as goal

pub returns : goal.returns
returns c = λ j is.
    let text = c.in_ok-written.ensures.text (ap has_float is ∙ has_no_float j) in
    c.in_ok-push_str.ensures.bytes ∙ ap (λ xs. string_bytes c.args.text.now ++ xs) (c.as_str.ensures.value ∙ text ∙ ap compact_text is)
