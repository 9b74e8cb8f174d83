-- The references of the JSON of a schema are the leaves of the tree.
use Rattle.std.proofs.Common.{ℕ, List, [], ◌∷◌, Option, Some, None, option_map, codes, nat_cmp, Ordering, Less, Equal, Greater, ◌≡◌, refl, sym, subst}
use Rattle.std.specs.Cmp.Lexicographic.{slice_cmp}
use Rattle.std.specs.Ordering.{match_ordering}
use Rattle.acceptance.specs.Json.{Json, Items, no_items, item, number, text, list, Members, no_members, member, put, put_given, put_all}
use Rattle.acceptance.specs.Keyword.{Keyword, keyword_of, other}
use Rattle.acceptance.specs.References.{EachReference, InMembers, InProperties, InSchemas, InItems, InEach, ReferenceHas, AtKeyword}
use Rattle.schema_trees.specs.declared.annotations.AnnotationKeywords.{AnnotationKeywords as Annotations}
use Rattle.schema_trees.specs.declared.tree.TypeWord.{TypeWord}
use Rattle.schema_trees.specs.declared.tree.TypeWord.TheVariants.{Any, One, Nullable}
use Rattle.schema_trees.specs.declared.tree.RefLeaf.{RefLeaf}
use Rattle.schema_trees.specs.Schema.{SchemaOf, leaf, object, array, one_of, all_of, SchemasOf, no_schemas, schema, PropertiesOf, no_properties, property, PartOf, no_part, truth, part, EachLeaf, EachSchemaLeaf, EachPropertyLeaf, EachPartLeaf}
use Rattle.schema_core.specs.declared.alternatives.Alternatives.{Alternatives}
use Rattle.schema_core.specs.declared.alternatives.Alternatives.TheVariants.{OneOf, AnyOf}
use Rattle.schema_core.specs.Form.{alternatives_word, type_form, required_form, entries_form, values_form, true_form, schemas_form, array_word, put_fields, annotation_fields, object_fields, array_fields, one_of_fields, all_of_fields, reference_fields, form_by, part_form, schema_forms, property_forms}
use Rattle.schema_core.proofs.Fields.{equal_names, AreOthers, others-annotations}

module _ (keyword : Alternatives) (Q : List ℕ → Type 0) where
  -- what is asked of a member, and of a field that may be left out
  abbrev AtMember : List ℕ → Json → Type 0
  AtMember k x = AtKeyword (keyword_of k) (EachReference Q x) (InProperties Q x) (InSchemas Q x) (ReferenceHas Q x)

  abbrev AtField : List ℕ → Option Json → Type 0
  AtField k None = Unit {0}
  AtField k (Some x) = AtMember k x

  abbrev AtFields : List (List ℕ × Option Json) → Type 0
  AtFields [] = Unit {0}
  AtFields (f ∷ fs) = AtField f.0 f.1 × AtFields fs

  in-put : (k : List ℕ) (x : Json) (ms : Members) → AtMember k x → InMembers Q ms → InMembers Q (put k x ms)
  in-put k x no_members h hs = (h, tt)
  in-put k x (member l y ms) h hs = by (slice_cmp nat_cmp k l) refl (in-put k x ms h hs.1)
    where
      by : (o : Ordering) → slice_cmp nat_cmp k l ≡ o → InMembers Q (put k x ms) → InMembers Q (match_ordering o (member k x (member l y ms)) (member l x ms) (member l y (put k x ms)))
      by Less e ih = (h, hs)
      by Equal e ih = (subst (λ n. AtMember n x) (equal_names k l e) h, hs.1)
      by Greater e ih = (hs.0, ih)

  in-given : (k : List ℕ) (o : Option Json) (ms : Members) → AtField k o → InMembers Q ms → InMembers Q (put_given k o ms)
  in-given k None ms h hs = hs
  in-given k (Some x) ms h hs = in-put k x ms h hs

  in-fields : (fs : List (List ℕ × Option Json)) (ms : Members) → AtFields fs → InMembers Q ms → InMembers Q (put_fields fs ms)
  in-fields [] ms h hs = hs
  in-fields (f ∷ fs) ms h hs = in-fields fs (put_given f.0 f.1 ms) h.1 (in-given f.0 f.1 ms h.0 hs)

  -- maps of schemas
  abbrev InEntries : List (List ℕ × Json) → Type 0
  InEntries [] = Unit {0}
  InEntries (p ∷ ps) = EachReference Q p.1 × InEntries ps

  each-put : (k : List ℕ) (x : Json) (ms : Members) → EachReference Q x → InEach Q ms → InEach Q (put k x ms)
  each-put k x no_members h hs = (h, tt)
  each-put k x (member l y ms) h hs = by (slice_cmp nat_cmp k l) (each-put k x ms h hs.1)
    where
      by : (o : Ordering) → InEach Q (put k x ms) → InEach Q (match_ordering o (member k x (member l y ms)) (member l x ms) (member l y (put k x ms)))
      by Less ih = (h, hs)
      by Equal ih = (h, hs.1)
      by Greater ih = (hs.0, ih)

  each-put_all : (ps : List (List ℕ × Json)) (ms : Members) → InEntries ps → InEach Q ms → InEach Q (put_all ps ms)
  each-put_all [] ms h hs = hs
  each-put_all (p ∷ ps) ms h hs = each-put_all ps (put p.0 p.1 ms) h.1 (each-put p.0 p.1 ms h.0 hs)

  -- fields without a schema
  at-type : (t : TypeWord) → AtField (codes "type") (type_form t)
  at-type Any = tt
  at-type (One w) = tt
  at-type (Nullable w) = tt

  -- a member that is no keyword
  at-other : (k : List ℕ) (o : Option Json) → keyword_of k ≡ other → AtField k o
  at-other k None e = tt
  at-other k (Some x) e = subst (λ (w : Keyword). AtKeyword w (EachReference Q x) (InProperties Q x) (InSchemas Q x) (ReferenceHas Q x)) (sym e) tt

  at-others : (fs : List (List ℕ × Option Json)) → AreOthers fs → AtFields fs
  at-others [] h = tt
  at-others (f ∷ fs) h = (at-other f.0 f.1 h.0, at-others fs h.1)

  at-annotations : (annotations : Annotations) → AtFields (annotation_fields annotations)
  at-annotations annotations = at-others (annotation_fields annotations) (others-annotations annotations)

  at-required : (ks : List (List ℕ)) → AtField (codes "required") (required_form ks)
  at-required [] = tt
  at-required (k ∷ ks) = tt

  -- a member whose value is no schema
  at-plain : (k : List ℕ) (o : Option Json) → ((x : Json) → AtMember k x) → AtField k o
  at-plain k None h = tt
  at-plain k (Some x) h = h x

  at-front : (xs : Items) → InItems Q xs → AtField (codes "prefixItems") (schemas_form xs)
  at-front no_items h = tt
  at-front (item x xs) h = h

  at-alternatives : (word : Alternatives) (xs : Items) → InItems Q xs → AtField (alternatives_word word) (Some (list xs))
  at-alternatives OneOf xs h = h
  at-alternatives AnyOf xs h = h

  at-properties : (ps : List (List ℕ × Json)) → InEntries ps → AtField (codes "properties") (entries_form ps)
  at-properties [] h = tt
  at-properties (p ∷ ps) h = each-put_all (p ∷ ps) no_members h tt

  mutual
    pub form-refers : (s : SchemaOf RefLeaf) → EachLeaf (λ r. Q r.name) s → EachReference Q (form_by keyword s)
    form-refers (leaf r) h = in-fields (reference_fields r) no_members (h, at-annotations r.annotations) tt
    form-refers (object facts ps additional names) h =
        in-fields (object_fields facts (property_forms keyword ps) (part_form keyword additional) (part_form keyword names)) no_members (
          at-type facts.type_word,
          (
            at-other (codes "format") (option_map text facts.format) refl,
            (
              at-plain (codes "enum") (values_form facts.enum_values) (λ x. tt),
              (
                at-properties (property_forms keyword ps) (properties-refer ps h.0),
                (
                  part-refers additional h.1.0,
                  (
                    part-refers names h.1.1,
                    (at-required facts.required, (at-plain (codes "minimum") (option_map number facts.bounds.minimum) (λ x. tt), at-annotations facts.annotations)),
                  ),
                ),
              ),
            ),
          ),
        ) tt
    form-refers (array facts front rest) h =
        in-fields (array_fields facts (schema_forms keyword front) (part_form keyword rest)) no_members (
          at-type (array_word facts.nullable),
          (
            at-plain (codes "uniqueItems") (true_form facts.unique) (λ x. tt),
            (
              at-plain (codes "maxItems") (option_map number facts.max_items) (λ x. tt),
              (
                at-plain (codes "minItems") (option_map number facts.min_items) (λ x. tt),
                (at-front (schema_forms keyword front) (schemas-refer front h.0), (part-refers rest h.1, at-annotations facts.annotations)),
              ),
            ),
          ),
        ) tt
    form-refers (one_of annotations ss) h = in-fields (one_of_fields keyword annotations (schema_forms keyword ss)) no_members (at-alternatives keyword (schema_forms keyword ss) (schemas-refer ss h), at-annotations annotations) tt
    form-refers (all_of annotations ss) h = in-fields (all_of_fields annotations (schema_forms keyword ss)) no_members (schemas-refer ss h, at-annotations annotations) tt

    pub part-refers : (p : PartOf RefLeaf) → EachPartLeaf (λ r. Q r.name) p → AtField (codes "items") (part_form keyword p)
    part-refers no_part h = tt
    part-refers (truth b) h = tt
    part-refers (part s) h = form-refers s h

    pub schemas-refer : (ss : SchemasOf RefLeaf) → EachSchemaLeaf (λ r. Q r.name) ss → InItems Q (schema_forms keyword ss)
    schemas-refer no_schemas h = tt
    schemas-refer (schema s ss) h = (form-refers s h.0, schemas-refer ss h.1)

    pub properties-refer : (ps : PropertiesOf RefLeaf) → EachPropertyLeaf (λ r. Q r.name) ps → InEntries (property_forms keyword ps)
    properties-refer no_properties h = tt
    properties-refer (property k s ps) h = (form-refers s h.0, properties-refer ps h.1)
