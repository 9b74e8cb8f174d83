use Rattle.std.proofs.Common.{◌≡◌, ap, ◌∙◌, take, map, arith}
use Rattle.std.proofs.lemmas.Grind.{common_steps}
use Rattle.serde_json.specs.View.{items_of}
use Rattle.acceptance.specs.Data.{data_of}
use Rattle.schema_core.proofs.Values.{values_items}
use Rattle.schema_core.proofs.form.json_values.Goals as goal

pub returns : goal.returns
returns c =
    let whole : take c.loop-json.json-index c.args.jsons.now ≡ c.args.jsons.now = grind (arith, common_steps) in
    ap items_of (c.loop-json.invariant ∙ ap (map data_of) whole) ∙ values_items c.args.jsons.now
