use Rattle.std.proofs.Common.{◌≡◌, map, take}
use Rattle.schema_trees.specs.Annotations.{no_annotations}
use Rattle.component.specs.Leaves.{term_view}
use Rattle.terms.specs.Terms.{tag_alone}
use Rattle.terms.proofs.body.tags.Given as goal

-- the objects so far are those of the names so far
abbrev pub invariant-loop-name : goal.invariant-loop-name
invariant-loop-name l = map term_view l.items ≡ map (tag_alone no_annotations l.tag) (take l.name-index l.names)
