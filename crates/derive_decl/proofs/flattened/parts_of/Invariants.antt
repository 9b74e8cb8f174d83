use Rattle.std.proofs.Common.{◌≡◌, map, filter_map, true}
use Rattle.shapes.specs.Views.{flattened_view, flattened_map_view}
use Rattle.derive_decl.specs.Resolved.{map_from, beside_from}
use Rattle.derive_decl.specs.Views.{typed_view}
use Rattle.derive_decl.proofs.flattened.parts_of.Given as goal

-- the parts are those of the fields that were taken
abbrev pub invariant-loop-field : goal.invariant-loop-field
invariant-loop-field l =
    (map flattened_view l.flattened ≡ (beside_from true (map typed_view l.yielded)).flattened)
    × (map flattened_map_view l.maps.items ≡ filter_map map_from (map typed_view l.yielded))
