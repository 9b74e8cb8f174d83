use Rattle.std.proofs.Common.{◌≡◌, ap, ◌∙◌, map, take, arith}
use Rattle.std.proofs.lemmas.Grind.{common_steps}
use Rattle.schema_trees.specs.Schema.{schemas_of}
use Rattle.component.proofs.Places.{item_place, items_are}
use Rattle.component.proofs.place.+place.Goals as goal

pub inline_places-returns : goal.inline_places-returns
inline_places-returns t c =
    let whole : take c.loop-ty.ty-index c.args.types.now ≡ c.args.types.now = grind (arith, common_steps) in
    ap schemas_of (c.loop-ty.invariant ∙ ap (map item_place) whole) ∙ items_are c.args.types.now
