use Rattle.std.proofs.Common.{ℕ, ◌≡◌, ◌<◌, ◌+◌, ◌++◌, List, ◌∷◌, [], ◌∙◌, refl, ap, sym, subst, arith, codes, length, drop, map, rules, true, false, Some, string_bytes}
use Rattle.std.specs.List.{AllByRecursion}
use Rattle.std.proofs.lemmas.List.{append_assoc, length-map, at_drop_more, at_drop_all}
use Rattle.std.proofs.lemmas.Result.{IfOk-weaker}
use Rattle.json.specs.Print.{escape_byte}
use Rattle.serde_json.specs.Written.{compact_text, items_text, members_text}
use Rattle.acceptance.specs.Json.{boolean, list, Items, no_items, item, map_of, put_all, no_members}
use Rattle.acceptance.specs.Data.{data_of, items_data, members_data}
use Rattle.schema_trees.specs.Held.{IsHeld}
use Rattle.schema_trees.specs.declared.tree.Tree.{Tree}
use Rattle.schema_trees.specs.declared.tree.RefLeaf.{RefLeaf}
use Rattle.schema_core.specs.declared.alternatives.Alternatives.{Alternatives}
use Rattle.schema_core.specs.declared.alternatives.Alternatives.TheVariants.{OneOf, AnyOf}
use Rattle.schema_core.specs.Form.{form_by, type_form, array_word, required_form, entries_form, schemas_form, part_form, schema_forms, property_forms, object_fields, array_fields, one_of_fields, all_of_fields}
use Rattle.schema_trees.specs.Schema.{SchemaOf, object_facts, bind, bind_part, bind_properties, bind_schemas, named_views, tree_view, tree_views, additional_view, optional_view, array_items_view}
use Rattle.schema_core.specs.Writes.{Writes, places_from}
use Rattle.schema_core.proofs.Values.{some_entries}
use Rattle.schema_core.proofs.Parts.{additional-truth, additional-of, items-false, items-each, one_of_view-is, all_of_view-is, object_view-is, array_view-is, array_facts_of, count-views, count-bound, names-views, names-bound, some_schemas, form_count, property_names_are, value_at-property}
use Rattle.schema_core.proofs.Placed.{place_of, placed_text, placed_step, places_text, ArePlacedHeld, places_held, places_below, value_at}
use Rattle.schema_core.proofs.Writes.{then, present, object_text}
use Rattle.schema_core.proofs.Written.{item_step}
use Rattle.schema_core.proofs.schema_text.+text.Goals as goal
use Rattle.schema_core.proofs.schema_text.+text.Goals.{push_members-After-into_iter-name-iterator}

-- the forms of schemas
abbrev forms : {L X : Type 0} → (L → X) → (X → SchemaOf RefLeaf) → Alternatives → List (Tree L) → Items
forms m f by ss = schema_forms by (bind_schemas f (tree_views m ss))

pub push_object-returns : goal.push_object-returns
unfolding escape_byte
push_object-returns g t c =
    let o = c.args.object.now in
    let before = string_bytes c.args.text.now in
    let properties = property_forms c.args.by (bind_properties (g.W.WriteLeaf.put c.args.writer.now) (named_views g.W.WriteLeaf.meaning o.properties)) in
    let fields = object_fields (object_facts o) properties (part_form c.args.by (bind_part (g.W.WriteLeaf.put c.args.writer.now) (additional_view g.W.WriteLeaf.meaning o.additional))) (part_form c.args.by (bind_part (g.W.WriteLeaf.put c.args.writer.now) (optional_view g.W.WriteLeaf.meaning o.property_names))) in
    let named : Writes ((codes "properties", entries_form properties) ∷ []) c.in_ok-later-6.later (string_bytes c.push_bound.new.text) c.in_ok-later-7.later (string_bytes c.push_properties.new.text) =
    subst (λ ps. Writes ((codes "properties", entries_form (property_forms c.args.by (bind_properties (g.W.WriteLeaf.put c.args.writer.now) (named_views g.W.WriteLeaf.meaning ps)))) ∷ []) c.in_ok-later-6.later (string_bytes c.push_bound.new.text) c.in_ok-later-7.later (string_bytes c.push_properties.new.text)) c.as_slice.ensures c.in_ok-later-7.ensures in
    let needed : Writes ((codes "required", required_form o.required) ∷ []) c.in_ok-later-9.later (string_bytes c.push_read_only.new.text) c.in_ok-later-10.later (string_bytes c.push_required.new.text) =
    subst (λ ks. Writes ((codes "required", required_form ks) ∷ []) c.in_ok-later-9.later (string_bytes c.push_read_only.new.text) c.in_ok-later-10.later (string_bytes c.push_required.new.text)) c.as_slice-2.ensures c.in_ok-later-10.ensures in
    let after_properties = then c.in_ok-later-8.ensures (then c.in_ok-later-9.ensures (then needed (then c.in_ok-later-11.ensures (then c.in_ok-later-12.ensures c.in_ok-push_write_only.ensures)))) in
    let after_enum = then c.in_ok-later-4.ensures (then (c.in_ok-later-5.ensures (codes "format") refl) (then (c.in_ok-later-6.ensures (codes "minimum") refl) (then named after_properties))) in
    rw (object_view-is g.W.WriteLeaf.meaning o)
    (object_text fields before _ _ _ refl refl c.in_ok-push_str.ensures.bytes
    (then c.in_ok-later.ensures (then c.in_ok-later-2.ensures (then (c.in_ok-later-3.ensures (codes "enum") refl) after_enum)))
    c.in_ok-push_str-2.ensures.bytes)

pub push_array-returns : goal.push_array-returns
unfolding escape_byte
push_array-returns g t c =
    let a = c.args.array.now in
    let before = string_bytes c.args.text.now in
    let fields = array_fields (array_facts_of a) (schema_forms c.args.by (bind_schemas (g.W.WriteLeaf.put c.args.writer.now) (tree_views g.W.WriteLeaf.meaning a.prefix_items))) (part_form c.args.by (bind_part (g.W.WriteLeaf.put c.args.writer.now) (array_items_view g.W.WriteLeaf.meaning a.items))) in
    let front : Writes ((codes "prefixItems", schemas_form (schema_forms c.args.by (bind_schemas (g.W.WriteLeaf.put c.args.writer.now) (tree_views g.W.WriteLeaf.meaning a.prefix_items)))) ∷ []) c.in_ok-later-4.later (string_bytes c.push_bound-2.new.text) c.in_ok-later-5.later (string_bytes c.push_front.new.text) =
    subst (λ ss. Writes ((codes "prefixItems", schemas_form (schema_forms c.args.by (bind_schemas (g.W.WriteLeaf.put c.args.writer.now) (tree_views g.W.WriteLeaf.meaning ss)))) ∷ []) c.in_ok-later-4.later (string_bytes c.push_bound-2.new.text) c.in_ok-later-5.later (string_bytes c.push_front.new.text)) c.as_slice.ensures c.in_ok-later-5.ensures in
    let word : Writes ((codes "type", type_form (array_word a.nullable)) ∷ []) c.in_ok-later-7.later (string_bytes c.push_title.new.text) c.in_ok-later-8.later (string_bytes c.push_type.new.text) =
    subst (λ w. Writes ((codes "type", type_form w) ∷ []) c.in_ok-later-7.later (string_bytes c.push_title.new.text) c.in_ok-later-8.later (string_bytes c.push_type.new.text)) c.array_word.ensures c.in_ok-later-8.ensures in
    let after_front = then c.in_ok-later-6.ensures (then c.in_ok-later-7.ensures (then word (then (c.in_ok-later-9.ensures (codes "uniqueItems") refl) c.in_ok-push_write_only.ensures))) in
    rw (array_view-is g.W.WriteLeaf.meaning a)
    (object_text fields before _ _ _ refl refl c.in_ok-push_str.ensures.bytes
    (then c.in_ok-later.ensures (then c.in_ok-later-2.ensures (then c.in_ok-push_items.ensures (then (c.in_ok-later-3.ensures (codes "maxItems") refl) (then (c.in_ok-later-4.ensures (codes "minItems") refl) (then front after_front))))))
    c.in_ok-push_str-2.ensures.bytes)

pub push_list-returns : goal.push_list-returns
push_list-returns g t c = λ k e.
    let schemas = forms g.W.WriteLeaf.meaning (g.W.WriteLeaf.put c.args.writer.now) c.args.by c.args.schemas.now in
    let before = string_bytes c.push_key.new.text in
    let inner = items_text false (items_data schemas) in
    present k (list schemas) c.args.later _ _ before _ e c.in_ok-push_key.ensures
    (c.in_ok-push_str-2.ensures.bytes ∙ c.in_ok-push_schemas.ensures.text_is ∙ ap (λ xs. xs ++ inner) c.in_ok-push_str.ensures.bytes ∙ append_assoc before (91 ∷ []) inner)
    c.in_ok-push_schemas.ensures.held

pub push_one_of-returns : goal.push_one_of-returns
unfolding escape_byte
push_one_of-returns g t c =
    let o = c.args.one_of.now in
    let before = string_bytes c.args.text.now in
    let listed = subst (λ ss. Writes ((codes "oneOf", Some (list (forms g.W.WriteLeaf.meaning (g.W.WriteLeaf.put c.args.writer.now) OneOf ss))) ∷ []) c.in_ok-later-2.later (string_bytes c.push_examples.new.text) true (string_bytes c.push_list.new.text)) c.as_slice-schemas.ensures (c.in_ok-push_list.ensures (codes "oneOf") refl) in
    rw (one_of_view-is g.W.WriteLeaf.meaning o)
    (object_text (one_of_fields OneOf o.annotations (forms g.W.WriteLeaf.meaning (g.W.WriteLeaf.put c.args.writer.now) OneOf o.items)) before _ _ _ refl refl c.in_ok-push_str.ensures.bytes
    (then c.in_ok-later.ensures (then c.in_ok-later-2.ensures (then listed (then c.in_ok-later-3.ensures (then c.in_ok-later-4.ensures c.in_ok-push_write_only.ensures)))))
    c.in_ok-push_str-2.ensures.bytes)

pub push_any_of-returns : goal.push_any_of-returns
unfolding escape_byte
push_any_of-returns g t c =
    let o = c.args.any_of.now in
    let listed = subst (λ ss. Writes ((codes "anyOf", Some (list (forms g.W.WriteLeaf.meaning (g.W.WriteLeaf.put c.args.writer.now) AnyOf ss))) ∷ []) false (string_bytes c.push_str.new.self) true (string_bytes c.push_list.new.text)) c.as_slice-schemas.ensures (c.in_ok-push_list.ensures (codes "anyOf") refl) in
    rw (one_of_view-is g.W.WriteLeaf.meaning o)
    (object_text (one_of_fields AnyOf o.annotations (forms g.W.WriteLeaf.meaning (g.W.WriteLeaf.put c.args.writer.now) AnyOf o.items)) (string_bytes c.args.text.now) _ _ _ refl refl c.in_ok-push_str.ensures.bytes
    (then listed c.in_ok-push_annotations.ensures)
    c.in_ok-push_str-2.ensures.bytes)

pub push_all_of-returns : goal.push_all_of-returns
unfolding escape_byte
push_all_of-returns g t c =
    let a = c.args.all_of.now in
    let listed = subst (λ ss. Writes ((codes "allOf", Some (list (forms g.W.WriteLeaf.meaning (g.W.WriteLeaf.put c.args.writer.now) c.args.by ss))) ∷ []) false (string_bytes c.push_str.new.self) true (string_bytes c.push_list.new.text)) c.as_slice.ensures (c.in_ok-push_list.ensures (codes "allOf") refl) in
    rw (all_of_view-is g.W.WriteLeaf.meaning a)
    (object_text (all_of_fields a.annotations (forms g.W.WriteLeaf.meaning (g.W.WriteLeaf.put c.args.writer.now) c.args.by a.items)) (string_bytes c.args.text.now) _ _ _ refl refl c.in_ok-push_str.ensures.bytes
    (then listed c.in_ok-push_annotations.ensures)
    c.in_ok-push_str-2.ensures.bytes)

pub push_front-returns : goal.push_front-returns
unfolding escape_byte
push_front-returns g t c =
    let ss = c.args.schemas.now in
    let some : 0 < length ss = grind arith in
    subst (λ o. Writes ((codes "prefixItems", o) ∷ []) c.args.later (string_bytes c.args.text.now) true (string_bytes c.push_list.new.text)) (sym (some_schemas c.args.by (bind_schemas (g.W.WriteLeaf.put c.args.writer.now) (tree_views g.W.WriteLeaf.meaning ss)) (omega (arith, count-bound (g.W.WriteLeaf.put c.args.writer.now) (tree_views g.W.WriteLeaf.meaning ss), count-views g.W.WriteLeaf.meaning ss, some)))) (c.in_ok-push_list.ensures (codes "prefixItems") refl)

pub push_properties-returns : goal.push_properties-returns
unfolding escape_byte
push_properties-returns g t c =
    let ps = c.args.properties.now in
    let es = property_forms c.args.by (bind_properties (g.W.WriteLeaf.put c.args.writer.now) (named_views g.W.WriteLeaf.meaning ps)) in
    let some : 0 < length ps = grind arith in
    subst (λ o. Writes ((codes "properties", o) ∷ []) c.args.later (string_bytes c.args.text.now) true (string_bytes c.push_members.new.text)) (sym (some_entries es (length ps) (sym (length-map ps (λ p. p.0)) ∙ ap length (sym (names-bound (g.W.WriteLeaf.put c.args.writer.now) (named_views g.W.WriteLeaf.meaning ps) ∙ names-views g.W.WriteLeaf.meaning ps)) ∙ form_count c.args.by (bind_properties (g.W.WriteLeaf.put c.args.writer.now) (named_views g.W.WriteLeaf.meaning ps))) some))
    (present (codes "properties") (map_of es) c.args.later _ _ _ _ refl c.in_ok-push_key.ensures c.in_ok-push_members.ensures.text_is c.in_ok-push_members.ensures.held)

pub push_additional-returns-in-Truth : goal.push_additional-returns-in-Truth
unfolding escape_byte
push_additional-returns-in-Truth g t c =
    IfOk-weaker c.push_truth.result _ _
    (λ went w.
    rw (c.in-Truth.is, additional-truth g.W.WriteLeaf.meaning c.in-Truth.truth) (w (codes "additionalProperties") refl))
    c.push_truth.ensures

pub push_additional-returns-in_ok-push_schema-in-Of : goal.push_additional-returns-in_ok-push_schema-in-Of
unfolding escape_byte
push_additional-returns-in_ok-push_schema-in-Of g t c =
    rw (c.in-Of.is, additional-of g.W.WriteLeaf.meaning c.in-Of.schema) (present (codes "additionalProperties") (form_by c.args.by (bind (g.W.WriteLeaf.put c.args.writer.now) (tree_view g.W.WriteLeaf.meaning c.in-Of.schema))) false _ _ _ _ refl c.in_ok-push_str-in-Of.ensures.bytes c.in_ok-push_schema-in-Of.ensures.text_is c.in_ok-push_schema-in-Of.ensures.held)

pub push_names-returns-in_ok-push_schema-in-Some : goal.push_names-returns-in_ok-push_schema-in-Some
unfolding escape_byte
push_names-returns-in_ok-push_schema-in-Some g t c =
    rw c.in-Some.is (present (codes "propertyNames") (form_by c.args.by (bind (g.W.WriteLeaf.put c.args.writer.now) (tree_view g.W.WriteLeaf.meaning c.in-Some.schema))) c.args.later _ _ _ _ refl c.in_ok-push_key-in-Some.ensures c.in_ok-push_schema-in-Some.ensures.text_is c.in_ok-push_schema-in-Some.ensures.held)

pub push_items-returns-in_ok-push_str-in-False : goal.push_items-returns-in_ok-push_str-in-False
unfolding escape_byte
push_items-returns-in_ok-push_str-in-False g t c =
    rw (c.in-False.is, items-false g.W.WriteLeaf.meaning) (present (codes "items") (boolean false) c.args.later _ _ _ _ refl c.in_ok-push_key.ensures c.in_ok-push_str-in-False.ensures.bytes (tt, tt))

pub push_items-returns-in_ok-push_schema-in-Each : goal.push_items-returns-in_ok-push_schema-in-Each
unfolding escape_byte
push_items-returns-in_ok-push_schema-in-Each g t c =
    rw (c.in-Each.is, items-each g.W.WriteLeaf.meaning c.in-Each.schema) (present (codes "items") (form_by c.args.by (bind (g.W.WriteLeaf.put c.args.writer.now) (tree_view g.W.WriteLeaf.meaning c.in-Each.schema))) c.args.later _ _ _ _ refl c.in_ok-push_key.ensures c.in_ok-push_schema-in-Each.ensures.text_is c.in_ok-push_schema-in-Each.ensures.held)

-- the places that are gone through are those of the names
places : (g : _) {t : ℕ} (c : push_members-After-into_iter-name-iterator g t) → map place_of c.into_iter-name-iterator.result ≡ places_from 0 (map (λ p. p.0) c.args.properties.now) []
places g c = ap (map place_of) (c.into_iter-name-iterator.ensures.into_iter_gives ∙ c.iter-name-items.ensures.rest) ∙ c.in_ok-order.ensures

pub push_members-loop-name-init : goal.push_members-loop-name-init
push_members-loop-name-init g t c =
    let n = length c.args.properties.now in
    let names = map (λ p. p.0) c.args.properties.now in
    record {
      text_is = refl;
      below = subst (AllByRecursion (λ e. e.1 < n)) (sym (places g c)) (places_below n 0 names [] tt (omega (arith, length-map c.args.properties.now (λ p. p.0))));
      held = λ h. h;
    }

pub push_members-loop-name-preserved : goal.push_members-loop-name-preserved
push_members-loop-name-preserved g t c =
    let ps = c.args.properties.now in
    let es = property_forms c.args.by (bind_properties (g.W.WriteLeaf.put c.args.writer.now) (named_views g.W.WriteLeaf.meaning ps)) in
    let rest = c.next.new.self in
    let p = c.index-properties-place.result in
    let i = c.in-Some.place.now in
    let here : c.loop-name.name-iterator ≡ (c.in-Some.name.now, i) ∷ rest = search rules in
    let within = subst (λ l. AllByRecursion (λ e. e.1 < length ps) (map place_of l)) here c.loop-name.invariant.below in
    let before = string_bytes c.push_str-in-loop-name.new.self in
    let value =
    c.in_ok-push_schema.ensures.text_is ∙ ap (λ q. before ++ compact_text (data_of (form_by c.args.by (bind (g.W.WriteLeaf.put c.args.writer.now) (tree_view g.W.WriteLeaf.meaning q.1))))) (sym c.index-properties-place.is)
    ∙ ap (λ x. before ++ compact_text (data_of x)) (sym (value_at-property g.W.WriteLeaf.meaning (g.W.WriteLeaf.put c.args.writer.now) c.args.by ps i p within.0 c.index-properties-place.is)) in
    let held : IsHeld (value_at es i) =
    subst IsHeld (sym (value_at-property g.W.WriteLeaf.meaning (g.W.WriteLeaf.put c.args.writer.now) c.args.by ps i p within.0 c.index-properties-place.is)) (subst (λ q. IsHeld (form_by c.args.by (bind (g.W.WriteLeaf.put c.args.writer.now) (tree_view g.W.WriteLeaf.meaning q.1)))) (sym c.index-properties-place.is) c.in_ok-push_schema.ensures.held) in
    record {
      text_is =
          placed_step c.loop-name.later es (c.in-Some.name.now.now, i) (map place_of rest) (string_bytes c.loop-name.text) _ _ _ _ c.in_ok-push_comma.ensures c.in_ok-push_words.ensures c.in_ok-push_str-2.ensures.bytes value
          ∙ ap (λ l. string_bytes c.loop-name.text ++ placed_text c.loop-name.later es (map place_of l)) (sym here) ∙ c.loop-name.invariant.text_is;
      below = within.1;
      held = λ more. c.loop-name.invariant.held (subst (λ l. ArePlacedHeld es (map place_of l)) (sym here) (held, more));
    }

pub push_members-returns : goal.push_members-returns
push_members-returns g t c =
    let ps = c.args.properties.now in
    let es = property_forms c.args.by (bind_properties (g.W.WriteLeaf.put c.args.writer.now) (named_views g.W.WriteLeaf.meaning ps)) in
    let begun = string_bytes c.push_str.new.self in
    let done : c.loop-name.name-iterator ≡ [] = search rules in
    let all : map place_of c.into_iter-name-iterator.result ≡ places_from 0 (map (λ e. e.0) es) [] =
    ap (map place_of) (c.into_iter-name-iterator.ensures.into_iter_gives ∙ c.iter-name-items.ensures.rest) ∙ c.in_ok-order.ensures ∙ ap (λ ks. places_from 0 ks []) (sym (property_names_are g.W.WriteLeaf.meaning (g.W.WriteLeaf.put c.args.writer.now) c.args.by ps)) in
    record {
      text_is =
          c.in_ok-push_str-3.ensures.bytes ∙ ap (λ l. string_bytes c.loop-name.text ++ placed_text c.loop-name.later es (map place_of l)) (sym done) ∙ c.loop-name.invariant.text_is
          ∙ ap (λ qs. begun ++ placed_text false es qs) all ∙ ap (λ m. begun ++ m) (places_text es)
          ∙ ap (λ m. m ++ members_text false (members_data (put_all es no_members))) c.in_ok-push_str.ensures.bytes
          ∙ append_assoc (string_bytes c.args.text.now) (123 ∷ []) (members_text false (members_data (put_all es no_members)));
      held = places_held es (subst (ArePlacedHeld es) all (c.loop-name.invariant.held (subst (λ l. ArePlacedHeld es (map place_of l)) (sym done) tt)));
    }

pub push_schemas-loop-schema-preserved : goal.push_schemas-loop-schema-preserved
push_schemas-loop-schema-preserved g t c =
    let ss = c.args.schemas.now in
    let i = c.loop-schema.schema-index in
    let s = c.schema-item.result in
    let rest = forms g.W.WriteLeaf.meaning (g.W.WriteLeaf.put c.args.writer.now) c.args.by (drop (i + 1) ss) in
    let here : forms g.W.WriteLeaf.meaning (g.W.WriteLeaf.put c.args.writer.now) c.args.by (drop i ss) ≡ item (form_by c.args.by (bind (g.W.WriteLeaf.put c.args.writer.now) (tree_view g.W.WriteLeaf.meaning s))) rest = at_drop_more (forms g.W.WriteLeaf.meaning (g.W.WriteLeaf.put c.args.writer.now) c.args.by) ss i s (omega arith) ∙ ap (λ u. item (form_by c.args.by (bind (g.W.WriteLeaf.put c.args.writer.now) (tree_view g.W.WriteLeaf.meaning u))) rest) (sym c.schema-item.is) in
    let before = string_bytes c.loop-schema.text in
    let one = c.in_ok-push_schema.ensures in
    record {
      text_is =
          item_step c.loop-schema.later (form_by c.args.by (bind (g.W.WriteLeaf.put c.args.writer.now) (tree_view g.W.WriteLeaf.meaning s))) rest before _ _ c.in_ok-push_comma.ensures one.text_is
          ∙ ap (λ xs. before ++ items_text c.loop-schema.later (items_data xs)) (sym here) ∙ c.loop-schema.invariant.text_is;
      held = λ more. c.loop-schema.invariant.held (subst (λ xs. IsHeld (list xs)) (sym here) ((one.held.0, more.0), (one.held.1, more.1)));
    }

pub push_schemas-returns : goal.push_schemas-returns
push_schemas-returns g t c =
    let none : forms g.W.WriteLeaf.meaning (g.W.WriteLeaf.put c.args.writer.now) c.args.by (drop c.loop-schema.schema-index c.args.schemas.now) ≡ no_items = at_drop_all (forms g.W.WriteLeaf.meaning (g.W.WriteLeaf.put c.args.writer.now) c.args.by) c.args.schemas.now c.loop-schema.schema-index (omega arith) in
    record {
      text_is = ap (λ xs. string_bytes c.loop-schema.text ++ items_text c.loop-schema.later (items_data xs)) (sym none) ∙ c.loop-schema.invariant.text_is;
      held = c.loop-schema.invariant.held (subst (λ xs. IsHeld (list xs)) (sym none) (tt, tt));
    }
