use Rattle.std.proofs.Common.{◌≡◌, drop}
use Rattle.acceptance.specs.Json.{distinct, elements}
use Rattle.acceptance_checker.specs.Layer.{json_of_values}
use Rattle.acceptance_checker.proofs.equality.are_distinct.Given as goal

abbrev pub invariant-loop-i : goal.invariant-loop-i
invariant-loop-i l = distinct (elements (json_of_values (drop l.i l.items))) ≡ distinct (elements (json_of_values l.items))
