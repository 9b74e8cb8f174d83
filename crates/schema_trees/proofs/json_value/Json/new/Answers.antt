use Rattle.serde_json.specs.View.{view}
use Rattle.schema_trees.proofs.Holds.{seen}
use Rattle.schema_trees.proofs.json_value.Json.new.Goals as goal

pub returns : goal.returns
returns c = seen (view c.args.value) (c.holds_float.ensures.held c.if-holds_float.false)
