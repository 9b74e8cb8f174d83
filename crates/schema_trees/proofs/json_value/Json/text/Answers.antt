use Rattle.std.proofs.Common.{rules, string_bytes}
use Rattle.serde_json.specs.declared.value.Value.{the_lemmas}
use Rattle.acceptance.specs.Json.{text}
use Rattle.schema_trees.proofs.json_value.Json.text.Goals as goal

pub invariant_of-result : goal.invariant_of-result
invariant_of-result c = (text (string_bytes c.args.text), (tt, tt), search (rules, the_lemmas))
