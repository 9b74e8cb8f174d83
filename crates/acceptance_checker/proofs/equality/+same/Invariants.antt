use Rattle.std.proofs.Common.{◌≡◌, ◌+◌, ◌*◌, ◌≤◌, drop}
use Rattle.acceptance.specs.Json.{same_items, same_members}
use Rattle.acceptance_checker.specs.Layer.{json_of_layer, json_of_values, json_of_entries}
use Rattle.acceptance_checker.proofs.Levels.{levels, items_levels, members_levels}
use Rattle.acceptance_checker.proofs.Views.{pairs}
use Rattle.acceptance_checker.proofs.equality.+same.Given as goal

abbrev pub decreases-same : goal.decreases-same
decreases-same l = 2 * levels (json_of_layer l.a)

abbrev pub decreases-same_items : goal.decreases-same_items
decreases-same_items l = 2 * items_levels (json_of_values l.xs.now) + 1

abbrev pub decreases-same_members : goal.decreases-same_members
decreases-same_members l = 2 * members_levels (json_of_entries l.ms.now.entries) + 1

abbrev pub invariant-same_items-loop-i : goal.invariant-same_items-loop-i
invariant-same_items-loop-i l =
    (same_items (json_of_values (drop l.i l.xs)) (json_of_values (drop l.i l.ys)) ≡ same_items (json_of_values l.xs) (json_of_values l.ys))
    × (items_levels (json_of_values (drop l.i l.xs)) ≤ items_levels (json_of_values l.xs))

abbrev pub invariant-same_members-loop-name : goal.invariant-same_members-loop-name
invariant-same_members-loop-name l =
    (same_members (json_of_entries l.name-iterator) (pairs l.ns.entries) ≡ same_members (json_of_entries l.ms.entries) (pairs l.ns.entries))
    × (members_levels (json_of_entries l.name-iterator) ≤ members_levels (json_of_entries l.ms.entries))
