use Rattle.std.proofs.Common.{rules}
use Rattle.serde_json.specs.declared.value.Value.{the_lemmas}
use Rattle.acceptance.specs.Json.{number}
use Rattle.schema_trees.proofs.json_value.Json.number.Goals as goal

pub invariant_of-result : goal.invariant_of-result
invariant_of-result c = (number c.args.number, (c.number.ensures.short, tt), search (rules, the_lemmas))
