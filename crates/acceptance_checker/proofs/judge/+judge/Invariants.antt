use Rattle.std.proofs.Common.{◌≡◌, ℕ, ◌+◌, ◌*◌, ◌≤◌, length, drop}
use Rattle.std.specs.List.{list_all}
use Rattle.serde_json.specs.declared.value.Value.{Value}
use Rattle.acceptance.specs.Acceptance.{others_pass, names_pass, named, accepts_with, members_hold, each_property, in_order, each_accepts, some_accepts}
use Rattle.acceptance.specs.Json.{elements, on_map}
use Rattle.acceptance_checker.specs.Judge.{components_at}
use Rattle.acceptance_checker.specs.Layer.{json_of_layer, json_of_value, json_of_values, json_of_entries}
use Rattle.acceptance_checker.proofs.Levels.{levels, items_levels, members_levels}
use Rattle.acceptance_checker.proofs.Views.{pairs}
use Rattle.acceptance_checker.proofs.judge.+judge.Given as goal

-- what is left to follow, in the document's levels, and the levels of the schema at hand
abbrev left : Value → ℕ → ℕ → ℕ
left document depth here = depth * (5 * levels (json_of_value document) + 1) + here

abbrev pub decreases-component_holds : goal.decreases-component_holds
decreases-component_holds l = left l.document.now l.depth 1

abbrev pub decreases-schema_accepts : goal.decreases-schema_accepts
decreases-schema_accepts l = left l.document.now l.depth (5 * levels (json_of_layer l.schema))

abbrev pub decreases-members_hold : goal.decreases-members_hold
decreases-members_hold l = left l.document.now l.depth (5 * members_levels (json_of_entries l.schema.now.entries) + 4)

abbrev pub decreases-member_holds : goal.decreases-member_holds
decreases-member_holds l = left l.document.now l.depth (5 * levels (json_of_layer l.x) + 3)

abbrev pub decreases-applicator_holds : goal.decreases-applicator_holds
decreases-applicator_holds l = left l.document.now l.depth (5 * levels (json_of_layer l.x) + 2)

abbrev pub decreases-each_property : goal.decreases-each_property
decreases-each_property l = left l.document.now l.depth (5 * members_levels (json_of_entries l.schemas.now.entries) + 1)

abbrev pub decreases-others_pass : goal.decreases-others_pass
decreases-others_pass l = left l.document.now l.depth (5 * levels (json_of_layer l.x) + 1)

abbrev pub decreases-names_pass : goal.decreases-names_pass
decreases-names_pass l = left l.document.now l.depth (5 * levels (json_of_layer l.x) + 1)

abbrev pub decreases-in_order : goal.decreases-in_order
decreases-in_order l = left l.document.now l.depth (5 * items_levels (json_of_values l.schemas.now) + 1)

abbrev pub decreases-items_pass : goal.decreases-items_pass
decreases-items_pass l = left l.document.now l.depth (5 * levels (json_of_layer l.x) + 1)

abbrev pub decreases-each_accepts : goal.decreases-each_accepts
decreases-each_accepts l = left l.document.now l.depth (5 * items_levels (json_of_values l.schemas.now) + 1)

abbrev pub decreases-some_accepts : goal.decreases-some_accepts
decreases-some_accepts l = left l.document.now l.depth (5 * items_levels (json_of_values l.schemas.now) + 1)

abbrev pub invariant-members_hold-loop-name : goal.invariant-members_hold-loop-name
invariant-members_hold-loop-name l =
    (members_hold (components_at l.document l.depth) (json_of_entries l.schema.entries) (json_of_entries l.name-iterator) (json_of_layer l.value)
    ≡ members_hold (components_at l.document l.depth) (json_of_entries l.schema.entries) (json_of_entries l.schema.entries) (json_of_layer l.value))
    × (members_levels (json_of_entries l.name-iterator) ≤ members_levels (json_of_entries l.schema.entries))

abbrev pub invariant-each_property-loop-name : goal.invariant-each_property-loop-name
invariant-each_property-loop-name l =
    (each_property (components_at l.document l.depth) (json_of_entries l.name-iterator) (pairs l.members.entries)
    ≡ each_property (components_at l.document l.depth) (json_of_entries l.schemas.entries) (pairs l.members.entries))
    × (members_levels (json_of_entries l.name-iterator) ≤ members_levels (json_of_entries l.schemas.entries))

abbrev pub invariant-others_pass-loop-name : goal.invariant-others_pass-loop-name
invariant-others_pass-loop-name l =
    others_pass (named (json_of_entries l.schema.entries)) (accepts_with (components_at l.document l.depth) (json_of_layer l.x)) (pairs l.name-iterator)
    ≡ on_map (json_of_layer l.value) (others_pass (named (json_of_entries l.schema.entries)) (accepts_with (components_at l.document l.depth) (json_of_layer l.x)))

abbrev pub invariant-names_pass-loop-name : goal.invariant-names_pass-loop-name
invariant-names_pass-loop-name l =
    names_pass (accepts_with (components_at l.document l.depth) (json_of_layer l.x)) (pairs l.name-iterator)
    ≡ on_map (json_of_layer l.value) (names_pass (accepts_with (components_at l.document l.depth) (json_of_layer l.x)))

abbrev pub invariant-in_order-loop-i : goal.invariant-in_order-loop-i
invariant-in_order-loop-i l =
    (in_order (components_at l.document l.depth) (json_of_values (drop l.i l.schemas)) (elements (json_of_values (drop l.i l.items)))
    ≡ in_order (components_at l.document l.depth) (json_of_values l.schemas) (elements (json_of_values l.items)))
    × (items_levels (json_of_values (drop l.i l.schemas)) ≤ items_levels (json_of_values l.schemas))
    × (l.i ≤ length l.items)

abbrev pub invariant-items_pass-loop-item : goal.invariant-items_pass-loop-item
invariant-items_pass-loop-item l =
    list_all (accepts_with (components_at l.document l.depth) (json_of_layer l.x)) (elements (json_of_values (drop l.item-index l.items)))
    ≡ list_all (accepts_with (components_at l.document l.depth) (json_of_layer l.x)) (elements (json_of_values l.items))

abbrev pub invariant-each_accepts-loop-schema : goal.invariant-each_accepts-loop-schema
invariant-each_accepts-loop-schema l =
    (each_accepts (components_at l.document l.depth) (json_of_values (drop l.schema-index l.schemas)) (json_of_layer l.value)
    ≡ each_accepts (components_at l.document l.depth) (json_of_values l.schemas) (json_of_layer l.value))
    × (items_levels (json_of_values (drop l.schema-index l.schemas)) ≤ items_levels (json_of_values l.schemas))

abbrev pub invariant-some_accepts-loop-schema : goal.invariant-some_accepts-loop-schema
invariant-some_accepts-loop-schema l =
    (some_accepts (components_at l.document l.depth) (json_of_values (drop l.schema-index l.schemas)) (json_of_layer l.value)
    ≡ some_accepts (components_at l.document l.depth) (json_of_values l.schemas) (json_of_layer l.value))
    × (items_levels (json_of_values (drop l.schema-index l.schemas)) ≤ items_levels (json_of_values l.schemas))
