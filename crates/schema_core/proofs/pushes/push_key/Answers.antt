use Rattle.std.proofs.Common.{◌++◌, ap, ◌∙◌, string_bytes}
use Rattle.std.proofs.lemmas.List.{append_assoc}
use Rattle.serde_json.specs.Written.{comma_if}
use Rattle.schema_core.proofs.pushes.push_key.Goals as goal

pub returns : goal.returns
returns c =
    c.in_ok-push_str.ensures.bytes ∙ ap (λ xs. xs ++ c.args.key.now) c.in_ok-push_comma.ensures ∙ append_assoc (string_bytes c.args.text.now) (comma_if c.args.later) c.args.key.now
