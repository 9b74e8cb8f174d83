use Rattle.std.proofs.Common.{◌≡◌, drop}
use Rattle.std.specs.List.{list_any}
use Rattle.acceptance.specs.Json.{same, elements}
use Rattle.acceptance_checker.specs.Layer.{json_of_layer, json_of_values}
use Rattle.acceptance_checker.proofs.equality.is_among.Given as goal

abbrev pub invariant-loop-item : goal.invariant-loop-item
invariant-loop-item l = list_any (same (json_of_layer l.value)) (elements (json_of_values (drop l.item-index l.items))) ≡ list_any (same (json_of_layer l.value)) (elements (json_of_values l.items))
