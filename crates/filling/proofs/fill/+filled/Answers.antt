use Rattle.std.proofs.Common.{◌≡◌, ◌<◌, ap, sym, ◌∙◌, length, map, take, arith}
use Rattle.std.proofs.lemmas.Grind.{common_steps}
use Rattle.schema_trees.specs.Schema.{bind, named_view, schemas_of, properties_of}
use Rattle.filling.proofs.Filling.{object_view-is, filled_of, property_of, schemas_are, properties_are, one_more}
use Rattle.filling.proofs.fill.+filled.Goals as goal

pub filled_object-returns : goal.filled_object-returns
filled_object-returns g t c =
    object_view-is g.F.Fill.meaning _
    ∙ rw (c.in_ok-facts.ensures.facts, c.in_ok-properties.ensures, c.as_slice.ensures, c.in_ok-additional.ensures, c.in_ok-property_names.ensures)
    (sym (ap (bind (g.F.Fill.put c.args.fill.now)) (object_view-is g.F.Fill.origin c.args.object.now)))

pub filled_properties-loop-property-preserved : goal.filled_properties-loop-property-preserved
filled_properties-loop-property-preserved g t c =
    let at = c.loop-property.property-index in
    let properties = c.args.properties.now in
    let lt : at < length properties = omega arith in
    rw c.in_ok-push.ensures.ok
    (one_more (named_view g.F.Fill.meaning) (property_of g.F.Fill.origin (g.F.Fill.put c.args.fill.now)) properties at c.property-item.result c.loop-property.made _ lt c.property-item.is c.loop-property.invariant (λ i. (c.in_ok-copy.ensures i, c.in_ok-schema.ensures i)))

pub filled_properties-returns : goal.filled_properties-returns
filled_properties-returns g t c =
    let whole : take c.loop-property.property-index c.args.properties.now ≡ c.args.properties.now = grind (arith, common_steps) in
    ap properties_of (c.loop-property.invariant ∙ ap (map (property_of g.F.Fill.origin (g.F.Fill.put c.args.fill.now))) whole) ∙ properties_are g.F.Fill.origin (g.F.Fill.put c.args.fill.now) c.args.properties.now

pub filled_trees-returns : goal.filled_trees-returns
filled_trees-returns g t c =
    let whole : take c.loop-tree.tree-index c.args.trees.now ≡ c.args.trees.now = grind (arith, common_steps) in
    ap schemas_of (c.loop-tree.invariant ∙ ap (map (filled_of g.F.Fill.origin (g.F.Fill.put c.args.fill.now))) whole) ∙ schemas_are g.F.Fill.origin (g.F.Fill.put c.args.fill.now) c.args.trees.now
