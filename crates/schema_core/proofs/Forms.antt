-- The JSON of a schema accepts what the tree accepts.
use Rattle.std.proofs.Common.{ℕ, suc, ℤ, List, [], ◌∷◌, Bool, true, false, ◌&&◌, ◌||◌, Option, Some, None, option_map, codes, drop, length, bytes_eq, ◌≡◌, refl, ap, ◌∙◌}
use Rattle.std.specs.List.{list_all, list_any}
use Rattle.std.proofs.lemmas.Bool.{or_from}
use Rattle.std.proofs.Math.Bool.{or-false, or-true, and-true}
use Rattle.acceptance.specs.Json.{Json, Items, null, number, text, list, map, Members, no_members, elements, names, look, same, on_map, on_list, if_there}
use Rattle.texts.specs.Names.{is_in, IsDistinct}
use Rattle.acceptance.specs.Acceptance.{kinds_of, texts_of, if_texts, keyword_holds, names_of, named, count_of, prefix_count, others_pass, names_pass, in_order, each_accepts, accepts_with, readings_of}
use Rattle.acceptance.specs.Keyword.{keyword_of, other}
use Rattle.acceptance.specs.Acceptance.{some_accepts as some_json_accepts}
use Rattle.schema_trees.specs.declared.annotations.AnnotationKeywords.{AnnotationKeywords as Annotations}
use Rattle.schema_trees.specs.declared.tree.TypeWord.{TypeWord}
use Rattle.schema_trees.specs.declared.tree.TypeWord.TheVariants.{Any, One, Nullable}
use Rattle.schema_trees.specs.declared.tree.RefLeaf.{RefLeaf}
use Rattle.schema_trees.specs.Schema.{SchemaOf, leaf, object, array, one_of, all_of, SchemasOf, no_schemas, schema, schema_count, PropertiesOf, no_properties, property, property_names, PartOf, no_part, truth, part}
use Rattle.schema_core.specs.declared.alternatives.Alternatives.{Alternatives}
use Rattle.schema_core.specs.declared.alternatives.Alternatives.TheVariants.{OneOf, AnyOf}
use Rattle.schema_core.specs.Form.{alternatives_word, word_text, type_form, texts_form, required_form, entries_form, value_items, values_form, true_form, schemas_form, array_word, put_fields, annotation_fields, object_fields, array_fields, one_of_fields, all_of_fields, reference_fields, form_by, part_form, schema_forms, property_forms}
use Rattle.schema_core.specs.Meaning.{word_accepts, enum_accepts, unique_accepts, max_items_accepts, min_items_accepts, minimum_accepts, bounds_accept, required_accepts, tree_accepts, where_given, each_in_order, all_accept, some_accepts, properties_accept, IsProper, IsPartProper, AreProper, ArePropertiesProper}
use Rattle.std.proofs.lemmas.Slice.Eq.{bytes_eq-Decides}
use Rattle.schema_core.proofs.Fields.{AreOthers, others-annotations, given_at, names-put_all, field_holds, fields_hold, AreFresh, look-fields, map-of-fields, entries_accept, map-of-entries, AreNew, same_name}

always : (v : Json) → true ≡ on_map v (λ es. true)
always null = refl
always (map ms) = refl
always _ = refl

always-list : (v : Json) → true ≡ on_list v (λ xs. true)
always-list (list xs) = refl
always-list null = refl
always-list _ = refl

elements-values : (xs : List Json) → elements (value_items xs) ≡ xs
elements-values [] = refl
elements-values (x ∷ xs) = ap (λ ys. x ∷ ys) (elements-values xs)

texts_of-texts_form : (ks : List (List ℕ)) → texts_of (texts_form ks) ≡ Some ks
texts_of-texts_form [] = refl
texts_of-texts_form (k ∷ ks) = ap (option_map (λ ls. k ∷ ls)) (texts_of-texts_form ks)

-- ---- one lemma a keyword
module _ (R : List ℕ → Json → Bool) (w : Members) where
  type-field : (t : TypeWord) (v : Json) → field_holds R w (codes "type", type_form t) v ≡ word_accepts t v
  type-field Any v = refl
  type-field (One x) v = refl
  type-field (Nullable x) v = ap (λ b. is_in (word_text x) (kinds_of v) || b) (or-false _)

  -- a member that is no keyword
  other-field : (k : List ℕ) (o : Option Json) (v : Json) → keyword_of k ≡ other → field_holds R w (k, o) v ≡ true
  other-field k None v e = refl
  other-field k (Some x) v e = λ i. keyword_holds (e i) w x (readings_of R x) v

  other-fields : (fs : List (List ℕ × Option Json)) (v : Json) → AreOthers fs → fields_hold R w fs v ≡ true
  other-fields [] v h = refl
  other-fields (f ∷ fs) v h = λ i. other-field f.0 f.1 v h.0 i && other-fields fs v h.1 i

  annotation-fields : (annotations : Annotations) (v : Json) → fields_hold R w (annotation_fields annotations) v ≡ true
  annotation-fields annotations v = other-fields (annotation_fields annotations) v (others-annotations annotations)

  required-field : (ks : List (List ℕ)) (v : Json) → field_holds R w (codes "required", required_form ks) v ≡ required_accepts ks v
  required-field [] v = always v
  required-field (k ∷ ks) v = λ i. on_map v (λ es. if_texts (texts_of-texts_form (k ∷ ks) i) (list_all (λ l. is_in l (names es))))

  enum-field : (o : Option (List Json)) (v : Json) → field_holds R w (codes "enum", values_form o) v ≡ enum_accepts o v
  enum-field None v = refl
  enum-field (Some xs) v = λ i. list_any (same v) (elements-values xs i)

  unique-field : (b : Bool) (v : Json) → field_holds R w (codes "uniqueItems", true_form b) v ≡ unique_accepts b v
  unique-field false v = refl
  unique-field true v = refl

  max_items-field : (o : Option ℤ) (v : Json) → field_holds R w (codes "maxItems", option_map number o) v ≡ max_items_accepts o v
  max_items-field None v = refl
  max_items-field (Some n) v = refl

  min_items-field : (o : Option ℤ) (v : Json) → field_holds R w (codes "minItems", option_map number o) v ≡ min_items_accepts o v
  min_items-field None v = refl
  min_items-field (Some n) v = refl

  minimum-field : (o : Option ℤ) (v : Json) → field_holds R w (codes "minimum", option_map number o) v ≡ minimum_accepts o v
  minimum-field None v = refl
  minimum-field (Some n) v = refl

  -- under either keyword at least one accepts
  alternatives-field : (word : Alternatives) (xs : Items) (v : Json) → field_holds R w (alternatives_word word, Some (list xs)) v ≡ some_json_accepts R xs v
  alternatives-field OneOf xs v = refl
  alternatives-field AnyOf xs v = refl

-- names of properties are names of their forms
new-forms : (keyword : Alternatives) (ps : PropertiesOf RefLeaf) (taken : List (List ℕ)) → IsDistinct (property_names ps) → ((j : List ℕ) → is_in j (property_names ps) ≡ true → is_in j taken ≡ false) → AreNew (property_forms keyword ps) taken
new-forms keyword no_properties taken d t = tt
new-forms keyword (property k s ps) taken d t =
    (t k here, new-forms keyword ps (k ∷ taken) d.1 (λ j e. or_from (bytes_eq j k) (is_in j taken) (apart j e) (t j (later j e))))
  where
    here : is_in k (property_names (property k s ps)) ≡ true
    here = ap (λ b. b || is_in k (property_names ps)) (same_name k)

    later : (j : List ℕ) → is_in j (property_names ps) ≡ true → is_in j (property_names (property k s ps)) ≡ true
    later j e = ap (λ b. bytes_eq j k || b) e ∙ or-true (bytes_eq j k)

    apart : (j : List ℕ) → is_in j (property_names ps) ≡ true → bytes_eq j k ≡ false
    apart j e = by (bytes_eq j k) refl
      where
        by : (b : Bool) → bytes_eq j k ≡ b → bytes_eq j k ≡ false
        by false f = f
        by true f = let same = (bytes_eq-Decides j k).0 f in let no : is_in j (property_names ps) ≡ false = ap (λ l. is_in l (property_names ps)) same ∙ d.0 in cc

-- `properties` of an object names its properties
names-forms : (keyword : Alternatives) (ps : PropertiesOf RefLeaf) → names (property_forms keyword ps) ≡ property_names ps
names-forms keyword no_properties = refl
names-forms keyword (property k s ps) = ap (λ ks. k ∷ ks) (names-forms keyword ps)

named-properties : (keyword : Alternatives) (j : List ℕ) (ps : PropertiesOf RefLeaf) → is_in j (names_of (given_at true (entries_form (property_forms keyword ps)) None)) ≡ is_in j (property_names ps)
named-properties keyword j no_properties = refl
named-properties keyword j (property k s ps) =
    names-put_all j (property_forms keyword (property k s ps)) no_members ∙ or-false (is_in j (names (property_forms keyword (property k s ps)))) ∙ ap (is_in j) (names-forms keyword (property k s ps))

-- `prefixItems` of an array counts its schemas in front
length-forms : (keyword : Alternatives) (ss : SchemasOf RefLeaf) → length (elements (schema_forms keyword ss)) ≡ schema_count ss
length-forms keyword no_schemas = refl
length-forms keyword (schema s ss) = ap suc (length-forms keyword ss)

counted-schemas : (keyword : Alternatives) (ss : SchemasOf RefLeaf) → count_of (given_at true (schemas_form (schema_forms keyword ss)) None) ≡ schema_count ss
counted-schemas keyword no_schemas = refl
counted-schemas keyword (schema s ss) = length-forms keyword (schema s ss)

-- the keyword of alternatives is no annotation
fresh : (word : Alternatives) (annotations : Annotations) (xs : Items) → AreFresh (one_of_fields word annotations xs) []
fresh OneOf annotations xs = (refl, (refl, (refl, (refl, (refl, (refl, (refl, (refl, (refl, (refl, (refl, tt)))))))))))
fresh AnyOf annotations xs = (refl, (refl, (refl, (refl, (refl, (refl, (refl, (refl, (refl, (refl, (refl, tt)))))))))))

last-true : (a b c d e f g : Bool) → (a && (b && (c && (d && (e && (f && (g && true))))))) ≡ (a && (b && (c && (d && (e && (f && g))))))
last-true a b c d e f g = λ i. a && (b && (c && (d && (e && (f && and-true g i)))))

last-of-six : (a b c d e f : Bool) → (a && (b && (c && (d && (e && (f && true)))))) ≡ (a && (b && (c && (d && (e && f)))))
last-of-six a b c d e f = λ i. a && (b && (c && (d && (e && and-true f i))))

module _ (keyword : Alternatives) (R : List ℕ → Json → Bool) where
  abbrev at_leaf : RefLeaf → Json → Bool
  at_leaf r = R r.name

  properties-field : (w : Members) (ps : PropertiesOf RefLeaf) (v : Json) → AreNew (property_forms keyword ps) [] → ((es : List (List ℕ × Json)) → entries_accept R (property_forms keyword ps) es ≡ properties_accept at_leaf ps es) →
      field_holds R w (codes "properties", entries_form (property_forms keyword ps)) v ≡ on_map v (properties_accept at_leaf ps)
  properties-field w no_properties v h e = always v
  properties-field w (property k s ps) v h e = λ i. on_map v (λ es. (map-of-entries R (property_forms keyword (property k s ps)) es h ∙ e es) i)

  front-field : (w : Members) (ss : SchemasOf RefLeaf) (v : Json) → ((xs : List Json) → in_order R (schema_forms keyword ss) xs ≡ each_in_order at_leaf ss xs) →
      field_holds R w (codes "prefixItems", schemas_form (schema_forms keyword ss)) v ≡ on_list v (each_in_order at_leaf ss)
  front-field w no_schemas v e = always-list v
  front-field w (schema s ss) v e = λ i. on_list v (λ xs. e xs i)

  mutual
    pub form-accepts : (s : SchemaOf RefLeaf) → IsProper s → (v : Json) → accepts_with R (form_by keyword s) v ≡ tree_accepts at_leaf s v
    form-accepts (leaf r) p v =
        let fs = reference_fields r in
        let w = put_fields fs no_members in
        map-of-fields R w fs v (refl, (refl, (refl, (refl, (refl, (refl, (refl, (refl, (refl, (refl, (refl, tt))))))))))) ∙ (λ i. R r.name v && annotation-fields R w r.annotations v i) ∙ and-true _
    form-accepts (object facts ps additional others) p v =
        let fs = object_fields facts (property_forms keyword ps) (part_form keyword additional) (part_form keyword others) in
        let w = put_fields fs no_members in
        let same_names : (j : List ℕ) → is_in j (named w) ≡ is_in j (property_names ps) = λ j. ap (λ o. is_in j (names_of o)) (look-fields (codes "properties") fs no_members) ∙ named-properties keyword j ps in
        map-of-fields R w fs v (refl, (refl, (refl, (refl, (refl, (refl, (refl, (refl, (refl, (refl, (refl, (refl, (refl, (refl, (refl, (refl, (refl, (refl, tt))))))))))))))))))
        ∙ (λ i. type-field R w facts.type_word v i
        && (other-field R w (codes "format") (option_map text facts.format) v refl i
        && (enum-field R w facts.enum_values v i
        && (properties-field w ps v (new-forms keyword ps [] p.0 (λ j e. refl)) (properties-accept ps p.1.0) i
        && (part-accepts additional p.1.1.0 (λ accepts. on_map v (others_pass (named w) accepts)) i
        && (part-accepts others p.1.1.1 (λ accepts. on_map v (names_pass accepts)) i
        && (required-field R w facts.required v i
        && (minimum-field R w facts.bounds.minimum v i && annotation-fields R w facts.annotations v i))))))))
        ∙ (λ i. word_accepts facts.type_word v
        && (enum_accepts facts.enum_values v
        && (on_map v (properties_accept at_leaf ps)
        && (where_given at_leaf additional (λ accepts. on_map v (list_all (λ e. same_names e.0 i || accepts e.1)))
        && (where_given at_leaf others (λ accepts. on_map v (names_pass accepts))
        && (required_accepts facts.required v
        && (bounds_accept facts.bounds v && true)))))))
        ∙ last-true (word_accepts facts.type_word v) (enum_accepts facts.enum_values v) (on_map v (properties_accept at_leaf ps))
        (where_given at_leaf additional (λ accepts. on_map v (others_pass (property_names ps) accepts)))
        (where_given at_leaf others (λ accepts. on_map v (names_pass accepts))) (required_accepts facts.required v) (bounds_accept facts.bounds v)
    form-accepts (array facts front rest) p v =
        let fs = array_fields facts (schema_forms keyword front) (part_form keyword rest) in
        let w = put_fields fs no_members in
        let counted : prefix_count w ≡ schema_count front = ap count_of (look-fields (codes "prefixItems") fs no_members) ∙ counted-schemas keyword front in
        map-of-fields R w fs v (refl, (refl, (refl, (refl, (refl, (refl, (refl, (refl, (refl, (refl, (refl, (refl, (refl, (refl, (refl, (refl, tt))))))))))))))))
        ∙ (λ i. type-field R w (array_word facts.nullable) v i
        && (unique-field R w facts.unique v i
        && (max_items-field R w facts.max_items v i
        && (min_items-field R w facts.min_items v i
        && (front-field w front v (in-order-accepts front p.0) i
        && (part-accepts rest p.1 (λ accepts. on_list v (λ xs. list_all accepts (drop (prefix_count w) xs))) i && annotation-fields R w facts.annotations v i))))))
        ∙ (λ i. word_accepts (array_word facts.nullable) v
        && (unique_accepts facts.unique v
        && (max_items_accepts facts.max_items v
        && (min_items_accepts facts.min_items v
        && (on_list v (each_in_order at_leaf front)
        && (where_given at_leaf rest (λ accepts. on_list v (λ xs. list_all accepts (drop (counted i) xs))) && true))))))
        ∙ last-of-six (word_accepts (array_word facts.nullable) v) (unique_accepts facts.unique v) (max_items_accepts facts.max_items v) (min_items_accepts facts.min_items v)
        (on_list v (each_in_order at_leaf front)) (where_given at_leaf rest (λ accepts. on_list v (λ xs. list_all accepts (drop (schema_count front) xs))))
    form-accepts (one_of annotations ss) p v =
        let fs = one_of_fields keyword annotations (schema_forms keyword ss) in
        let w = put_fields fs no_members in
        map-of-fields R w fs v (fresh keyword annotations (schema_forms keyword ss)) ∙ (λ i. (alternatives-field R w keyword (schema_forms keyword ss) v ∙ some-accepts ss p v) i && annotation-fields R w annotations v i) ∙ and-true _
    form-accepts (all_of annotations ss) p v =
        let fs = all_of_fields annotations (schema_forms keyword ss) in
        let w = put_fields fs no_members in
        map-of-fields R w fs v (refl, (refl, (refl, (refl, (refl, (refl, (refl, (refl, (refl, (refl, (refl, tt))))))))))) ∙ (λ i. all-accept ss p v i && annotation-fields R w annotations v i) ∙ and-true _

    part-accepts : (t : PartOf RefLeaf) → IsPartProper t → (asked : (Json → Bool) → Bool) → if_there (part_form keyword t) (λ x. asked (accepts_with R x)) ≡ where_given at_leaf t asked
    part-accepts no_part p asked = refl
    part-accepts (truth b) p asked = refl
    part-accepts (part s) p asked = λ i. asked (λ v. form-accepts s p v i)

    in-order-accepts : (ss : SchemasOf RefLeaf) → AreProper ss → (vs : List Json) → in_order R (schema_forms keyword ss) vs ≡ each_in_order at_leaf ss vs
    in-order-accepts no_schemas p vs = refl
    in-order-accepts (schema s ss) p [] = refl
    in-order-accepts (schema s ss) p (v ∷ vs) = λ i. form-accepts s p.0 v i && in-order-accepts ss p.1 vs i

    all-accept : (ss : SchemasOf RefLeaf) → AreProper ss → (v : Json) → each_accepts R (schema_forms keyword ss) v ≡ all_accept at_leaf ss v
    all-accept no_schemas p v = refl
    all-accept (schema s ss) p v = λ i. form-accepts s p.0 v i && all-accept ss p.1 v i

    pub some-accepts : (ss : SchemasOf RefLeaf) → AreProper ss → (v : Json) → some_json_accepts R (schema_forms keyword ss) v ≡ some_accepts at_leaf ss v
    some-accepts no_schemas p v = refl
    some-accepts (schema s ss) p v = λ i. form-accepts s p.0 v i || some-accepts ss p.1 v i

    pub properties-accept : (ps : PropertiesOf RefLeaf) → ArePropertiesProper ps → (es : List (List ℕ × Json)) → entries_accept R (property_forms keyword ps) es ≡ properties_accept at_leaf ps es
    properties-accept no_properties p es = refl
    properties-accept (property k s ps) p es = λ i. if_there (look k es) (λ w. form-accepts s p.0 w i) && properties-accept ps p.1 es i
