use Rattle.std.proofs.Common.{◌≡◌, ◌++◌, map, take}
use Rattle.std.specs.List.{flat_map}
use Rattle.tokens.specs.Trees.{tree_view}
use Rattle.prepare.specs.Fields.{named_names}
use Rattle.prepare.proofs.fields.push_all_named.Given as goal

abbrev pub invariant-loop-part : goal.invariant-loop-part
invariant-loop-part l = l.names ≡ l.initial.names ++ flat_map named_names (map (λ part. map tree_view part.now) (take l.part-index l.part-items))
