use Rattle.std.proofs.Common.{◌≡◌, ◌<◌, length, ap, sym, ◌∙◌, take, map, option_map, arith, Some}
use Rattle.std.proofs.lemmas.Grind.{common_steps}
use Rattle.std.proofs.lemmas.List.{length-map}
use Rattle.serde_json.specs.Data.{object as data_object, array as data_array}
use Rattle.serde_json.specs.View.{view, members_view, items_of}
use Rattle.acceptance.specs.Json.{put_all, no_members}
use Rattle.acceptance.specs.Data.{data_of, members_data}
use Rattle.schema_trees.specs.Schema.{named_views, tree_views, additional_view, optional_view, array_items_view}
use Rattle.schema_core.specs.Form.{form_by, type_form, required_form, entries_form, values_form, schemas_form, array_word, part_form, schema_forms, property_forms}
use Rattle.serde_json.proofs.Views.{view-Array}
use Rattle.schema_core.proofs.Puts.{object_is}
use Rattle.schema_core.proofs.Parts.{object_view-is, array_view-is, count-views, names-views, some_schemas, form_count}
use Rattle.schema_core.proofs.Values.{property_form, properties_are, put_step, schema_data, schemas_items, some_entries}
use Rattle.schema_core.proofs.form.+value.Goals as goal

pub object_value-returns : goal.object_value-returns
object_value-returns t c =
    let o = c.args.object.now in
    let e0 : members_view c.new-members.result.entries ≡ members_data no_members = ap members_view c.new-members.ensures.empty in
    let e1 = c.in_ok-put_given.ensures (type_form o.ty) c.in_ok-type_value.ensures no_members e0 in
    let e2 = c.in_ok-put_text.ensures _ e1 in
    let e3 = c.in_ok-put_given-2.ensures (values_form o.enum_values) c.in_ok-enum_values.ensures _ e2 in
    let properties = property_forms c.args.by (named_views (λ l. l) o.properties) in
    let given : option_map view c.in_ok-properties.properties ≡ option_map data_of (entries_form properties) = rw c.as_slice.ensures at c.in_ok-properties.ensures in
    let e4 = c.in_ok-put_given-3.ensures (entries_form properties) given _ e3 in
    let e5 = c.in_ok-put_given-4.ensures (part_form c.args.by (additional_view (λ l. l) o.additional)) c.in_ok-additional.ensures _ e4 in
    let e6 = c.in_ok-put_given-5.ensures (part_form c.args.by (optional_view (λ l. l) o.property_names)) c.in_ok-names.ensures _ e5 in
    let needed : option_map view c.in_ok-required.required ≡ option_map data_of (required_form o.required) = rw c.as_slice-2.ensures at c.in_ok-required.ensures in
    let e7 = c.in_ok-put_given-6.ensures (required_form o.required) needed _ e6 in
    let e8 = c.in_ok-put_bounds.ensures _ e7 in
    let e9 = c.in_ok-put_annotations.ensures _ e8 in
    object_is c.put_annotations.new.members ∙ ap data_object e9 ∙ ap (λ s. data_of (form_by c.args.by s)) (sym (object_view-is (λ l. l) o))

pub array_value-returns : goal.array_value-returns
array_value-returns t c =
    let a = c.args.array.now in
    let e0 : members_view c.new-members.result.entries ≡ members_data no_members = ap members_view c.new-members.ensures.empty in
    let word : option_map view c.in_ok-word.word ≡ option_map data_of (type_form (array_word a.nullable)) = c.in_ok-word.ensures ∙ ap (λ w. option_map data_of (type_form w)) c.array_word.ensures in
    let e1 = c.in_ok-put_given.ensures (type_form (array_word a.nullable)) word no_members e0 in
    let e2 = c.in_ok-put_true.ensures _ e1 in
    let e3 = c.in_ok-put_bound.ensures _ e2 in
    let e4 = c.in_ok-put_bound-2.ensures _ e3 in
    let schemas = schema_forms c.args.by (tree_views (λ l. l) a.prefix_items) in
    let front : option_map view c.in_ok-front.front ≡ option_map data_of (schemas_form schemas) = rw c.as_slice.ensures at c.in_ok-front.ensures in
    let e5 = c.in_ok-put_given-2.ensures (schemas_form schemas) front _ e4 in
    let e6 = c.in_ok-put_given-3.ensures (part_form c.args.by (array_items_view (λ l. l) a.items)) c.in_ok-rest.ensures _ e5 in
    let e7 = c.in_ok-put_annotations.ensures _ e6 in
    object_is c.put_annotations.new.members ∙ ap data_object e7 ∙ ap (λ s. data_of (form_by c.args.by s)) (sym (array_view-is (λ l. l) a))

pub front_value-returns : goal.front_value-returns
front_value-returns t c =
    let ss = c.args.schemas.now in
    let some : 0 < length ss = grind arith in
    ap Some (view-Array c.in_ok-schema_values.field-0 ∙ ap data_array c.in_ok-schema_values.ensures) ∙ ap (option_map data_of) (sym (some_schemas c.args.by (tree_views (λ l. l) ss) (omega (arith, count-views (λ l. l) ss, some))))

pub properties_value-returns : goal.properties_value-returns
properties_value-returns t c =
    let ps = c.args.properties.now in
    let es = property_forms c.args.by (named_views (λ l. l) ps) in
    let some : 0 < length ps = grind arith in
    ap Some (object_is c.in_ok-property_values.field-0 ∙ ap data_object c.in_ok-property_values.ensures) ∙ ap (option_map data_of) (sym (some_entries es (length ps) (sym (length-map ps (λ p. p.0)) ∙ ap length (sym (names-views (λ l. l) ps)) ∙ form_count c.args.by (named_views (λ l. l) ps)) some))

pub property_values-loop-property-preserved : goal.property_values-loop-property-preserved
property_values-loop-property-preserved t c =
    put_step (property_form c.args.by) c.args.properties.now c.loop-property.property-index c.property-item.result (grind arith) (grind arith) _ _ _ _
    c.as_str.ensures c.in_ok-value.ensures c.loop-property.invariant c.in_ok-put.ensures

pub property_values-returns : goal.property_values-returns
property_values-returns t c =
    let whole : take c.loop-property.property-index c.args.properties.now ≡ c.args.properties.now = grind (arith, common_steps) in
    c.loop-property.invariant ∙ ap (λ ps. members_data (put_all (map (property_form c.args.by) ps) no_members)) whole ∙ ap (λ es. members_data (put_all es no_members)) (properties_are c.args.by c.args.properties.now)

pub schema_values-returns : goal.schema_values-returns
schema_values-returns t c =
    let whole : take c.loop-schema.schema-index c.args.schemas.now ≡ c.args.schemas.now = grind (arith, common_steps) in
    ap items_of (c.loop-schema.invariant ∙ ap (map (schema_data c.args.by)) whole) ∙ schemas_items c.args.by c.args.schemas.now
