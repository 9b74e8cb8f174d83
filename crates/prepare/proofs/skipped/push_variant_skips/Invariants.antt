use Rattle.std.proofs.Common.{◌≡◌, ◌++◌, map, take}
use Rattle.std.specs.List.{flat_map}
use Rattle.tokens.specs.Trees.{tree_view}
use Rattle.prepare.specs.Skipped.{field_skips}
use Rattle.prepare.proofs.skipped.push_variant_skips.Given as goal

abbrev pub invariant-loop-part : goal.invariant-loop-part
invariant-loop-part l = l.spans ≡ l.initial.spans ++ flat_map field_skips (map tree_view (take l.part-index l.part-items))
