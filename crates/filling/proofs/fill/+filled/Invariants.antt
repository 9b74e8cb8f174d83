use Rattle.std.proofs.Common.{◌≡◌, map, take}
use Rattle.schema_trees.specs.Schema.{tree_view, named_view}
use Rattle.filling.proofs.Filling.{filled_of, property_of}
use Rattle.filling.proofs.fill.+filled.Given as goal

-- the properties so far have their schemas filled
abbrev pub invariant-filled_properties-loop-property : goal.invariant-filled_properties-loop-property
invariant-filled_properties-loop-property g l = map (named_view g.F.Fill.meaning) l.made ≡ map (property_of g.F.Fill.origin (g.F.Fill.put l.fill)) (take l.property-index l.properties)

-- the schemas so far are those of the schemas so far, filled
abbrev pub invariant-filled_trees-loop-tree : goal.invariant-filled_trees-loop-tree
invariant-filled_trees-loop-tree g l = map (tree_view g.F.Fill.meaning) l.made ≡ map (filled_of g.F.Fill.origin (g.F.Fill.put l.fill)) (take l.tree-index l.trees)
