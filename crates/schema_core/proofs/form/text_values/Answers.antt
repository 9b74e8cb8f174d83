use Rattle.std.proofs.Common.{◌≡◌, ap, ◌∙◌, take, map, arith}
use Rattle.std.proofs.lemmas.Grind.{common_steps}
use Rattle.serde_json.specs.Data.{string}
use Rattle.serde_json.specs.View.{items_of}
use Rattle.schema_core.proofs.Values.{texts_items}
use Rattle.schema_core.proofs.form.text_values.Goals as goal

pub returns : goal.returns
returns c =
    let whole : take c.loop-text.text-index c.args.texts.now ≡ c.args.texts.now = grind (arith, common_steps) in
    ap items_of (c.loop-text.invariant ∙ ap (map string) whole) ∙ texts_items c.args.texts.now
