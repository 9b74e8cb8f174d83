use Rattle.std.proofs.Common.{rules}
use Rattle.serde_json.specs.declared.value.Value.{the_lemmas}
use Rattle.acceptance.specs.Json.{null}
use Rattle.schema_trees.proofs.json_value.Json.null.Goals as goal

pub invariant_of-result : goal.invariant_of-result
invariant_of-result c = (null, (tt, tt), search (rules, the_lemmas))
