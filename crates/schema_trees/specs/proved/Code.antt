-- How the logic stores a schema, so that a model may hold one.
use Rattle.std.proofs.Common.{◌≡◌, ℕ, ℤ, Bool, List, Option, refl, ap, arith}
use Rattle.std.specs.Coded.{Coded, code_by, coded×, coded_ℕ, coded_ℤ, coded_bool, coded_list, coded_option}
use base.Stored.{Gv, gnil, gnum, gcons}
use Rattle.acceptance.specs.Json.{Json}
use Rattle.schema_trees.specs.contracts.bounds.Bounds as bounds
use Rattle.schema_trees.specs.contracts.annotations.AnnotationKeywords as annotations
use Rattle.schema_trees.specs.contracts.tree.TypeWord as word
use Rattle.schema_trees.specs.declared.bounds.Bounds.{Bounds}
use Rattle.schema_trees.specs.declared.annotations.AnnotationKeywords.{AnnotationKeywords as Annotations}
use Rattle.schema_trees.specs.declared.tree.TypeWord.{TypeWord}
use Rattle.schema_trees.specs.proved.JsonCode.{head, tail, apart, coded_json}
use Rattle.schema_trees.specs.Schema.{Facts, ArrayFacts, SchemaOf, leaf, object, array, one_of, all_of, SchemasOf, no_schemas, schema, PropertiesOf, no_properties, property, PartOf, no_part, truth, part}

abbrev pub coded_facts : Coded Facts
coded_facts = code_by (TypeWord × (Option (List ℕ) × (Option (List Json) × (List (List ℕ) × (Bounds × Annotations)))))
    (coded× word.the_row.coded (coded× (coded_option (coded_list coded_ℕ)) (coded× (coded_option (coded_list coded_json)) (coded× (coded_list (coded_list coded_ℕ)) (coded× bounds.the_row.coded annotations.the_row.coded)))))
    (λ f. (f.type_word, (f.format, (f.enum_values, (f.required, (f.bounds, f.annotations))))))
    (λ p. record { type_word = p.0; format = p.1.0; enum_values = p.1.1.0; required = p.1.1.1.0; bounds = p.1.1.1.1.0; annotations = p.1.1.1.1.1 }) (λ _. refl)

abbrev pub coded_array_facts : Coded ArrayFacts
coded_array_facts = code_by (Bool × (Bool × (Option ℤ × (Option ℤ × Annotations))))
    (coded× coded_bool (coded× coded_bool (coded× (coded_option coded_ℤ) (coded× (coded_option coded_ℤ) annotations.the_row.coded))))
    (λ f. (f.nullable, (f.unique, (f.max_items, (f.min_items, f.annotations)))))
    (λ p. record { nullable = p.0; unique = p.1.0; max_items = p.1.1.0; min_items = p.1.1.1.0; annotations = p.1.1.1.1 }) (λ _. refl)

module _ {X : Type 0} (leaves : Coded X) where
  abbrev mutual
    pub schema_code : SchemaOf X → Gv
    schema_code (leaf a0) = gcons (gnum 0) (leaves.code a0)
    schema_code (object a0 a1 a2 a3) = gcons (gnum 1) (gcons (coded_facts.code a0) (gcons (properties_code a1) (gcons (part_code a2) (part_code a3))))
    schema_code (array a0 a1 a2) = gcons (gnum 2) (gcons (coded_array_facts.code a0) (gcons (schemas_code a1) (part_code a2)))
    schema_code (one_of a0 a1) = gcons (gnum 3) (gcons (annotations.the_row.coded.code a0) (schemas_code a1))
    schema_code (all_of a0 a1) = gcons (gnum 4) (gcons (annotations.the_row.coded.code a0) (schemas_code a1))

    pub schemas_code : SchemasOf X → Gv
    schemas_code no_schemas = gcons (gnum 0) gnil
    schemas_code (schema a0 a1) = gcons (gnum 1) (gcons (schema_code a0) (schemas_code a1))

    pub properties_code : PropertiesOf X → Gv
    properties_code no_properties = gcons (gnum 0) gnil
    properties_code (property a0 a1 a2) = gcons (gnum 1) (gcons ((coded_list coded_ℕ).code a0) (gcons (schema_code a1) (properties_code a2)))

    pub part_code : PartOf X → Gv
    part_code no_part = gcons (gnum 0) gnil
    part_code (truth a0) = gcons (gnum 1) (coded_bool.code a0)
    part_code (part a0) = gcons (gnum 2) (schema_code a0)

  mutual
    pub schema_inj : (x y : SchemaOf X) → schema_code x ≡ schema_code y → x ≡ y
    schema_inj (leaf a0) (leaf b0) p = λ i. leaf (leaves.inj a0 b0 (ap (λ g. tail g) p) i)
    schema_inj (leaf a0) (object b0 b1 b2 b3) p = absurd (apart 0 1 p (omega arith))
    schema_inj (leaf a0) (array b0 b1 b2) p = absurd (apart 0 2 p (omega arith))
    schema_inj (leaf a0) (one_of b0 b1) p = absurd (apart 0 3 p (omega arith))
    schema_inj (leaf a0) (all_of b0 b1) p = absurd (apart 0 4 p (omega arith))
    schema_inj (object a0 a1 a2 a3) (leaf b0) p = absurd (apart 1 0 p (omega arith))
    schema_inj (object a0 a1 a2 a3) (object b0 b1 b2 b3) p = λ i. object (coded_facts.inj a0 b0 (ap (λ g. head (tail g)) p) i) (properties_inj a1 b1 (ap (λ g. head (tail (tail g))) p) i) (part_inj a2 b2 (ap (λ g. head (tail (tail (tail g)))) p) i) (part_inj a3 b3 (ap (λ g. tail (tail (tail (tail g)))) p) i)
    schema_inj (object a0 a1 a2 a3) (array b0 b1 b2) p = absurd (apart 1 2 p (omega arith))
    schema_inj (object a0 a1 a2 a3) (one_of b0 b1) p = absurd (apart 1 3 p (omega arith))
    schema_inj (object a0 a1 a2 a3) (all_of b0 b1) p = absurd (apart 1 4 p (omega arith))
    schema_inj (array a0 a1 a2) (leaf b0) p = absurd (apart 2 0 p (omega arith))
    schema_inj (array a0 a1 a2) (object b0 b1 b2 b3) p = absurd (apart 2 1 p (omega arith))
    schema_inj (array a0 a1 a2) (array b0 b1 b2) p = λ i. array (coded_array_facts.inj a0 b0 (ap (λ g. head (tail g)) p) i) (schemas_inj a1 b1 (ap (λ g. head (tail (tail g))) p) i) (part_inj a2 b2 (ap (λ g. tail (tail (tail g))) p) i)
    schema_inj (array a0 a1 a2) (one_of b0 b1) p = absurd (apart 2 3 p (omega arith))
    schema_inj (array a0 a1 a2) (all_of b0 b1) p = absurd (apart 2 4 p (omega arith))
    schema_inj (one_of a0 a1) (leaf b0) p = absurd (apart 3 0 p (omega arith))
    schema_inj (one_of a0 a1) (object b0 b1 b2 b3) p = absurd (apart 3 1 p (omega arith))
    schema_inj (one_of a0 a1) (array b0 b1 b2) p = absurd (apart 3 2 p (omega arith))
    schema_inj (one_of a0 a1) (one_of b0 b1) p = λ i. one_of (annotations.the_row.coded.inj a0 b0 (ap (λ g. head (tail g)) p) i) (schemas_inj a1 b1 (ap (λ g. tail (tail g)) p) i)
    schema_inj (one_of a0 a1) (all_of b0 b1) p = absurd (apart 3 4 p (omega arith))
    schema_inj (all_of a0 a1) (leaf b0) p = absurd (apart 4 0 p (omega arith))
    schema_inj (all_of a0 a1) (object b0 b1 b2 b3) p = absurd (apart 4 1 p (omega arith))
    schema_inj (all_of a0 a1) (array b0 b1 b2) p = absurd (apart 4 2 p (omega arith))
    schema_inj (all_of a0 a1) (one_of b0 b1) p = absurd (apart 4 3 p (omega arith))
    schema_inj (all_of a0 a1) (all_of b0 b1) p = λ i. all_of (annotations.the_row.coded.inj a0 b0 (ap (λ g. head (tail g)) p) i) (schemas_inj a1 b1 (ap (λ g. tail (tail g)) p) i)

    pub schemas_inj : (x y : SchemasOf X) → schemas_code x ≡ schemas_code y → x ≡ y
    schemas_inj no_schemas no_schemas p = refl
    schemas_inj no_schemas (schema b0 b1) p = absurd (apart 0 1 p (omega arith))
    schemas_inj (schema a0 a1) no_schemas p = absurd (apart 1 0 p (omega arith))
    schemas_inj (schema a0 a1) (schema b0 b1) p = λ i. schema (schema_inj a0 b0 (ap (λ g. head (tail g)) p) i) (schemas_inj a1 b1 (ap (λ g. tail (tail g)) p) i)

    pub properties_inj : (x y : PropertiesOf X) → properties_code x ≡ properties_code y → x ≡ y
    properties_inj no_properties no_properties p = refl
    properties_inj no_properties (property b0 b1 b2) p = absurd (apart 0 1 p (omega arith))
    properties_inj (property a0 a1 a2) no_properties p = absurd (apart 1 0 p (omega arith))
    properties_inj (property a0 a1 a2) (property b0 b1 b2) p = λ i. property ((coded_list coded_ℕ).inj a0 b0 (ap (λ g. head (tail g)) p) i) (schema_inj a1 b1 (ap (λ g. head (tail (tail g))) p) i) (properties_inj a2 b2 (ap (λ g. tail (tail (tail g))) p) i)

    pub part_inj : (x y : PartOf X) → part_code x ≡ part_code y → x ≡ y
    part_inj no_part no_part p = refl
    part_inj no_part (truth b0) p = absurd (apart 0 1 p (omega arith))
    part_inj no_part (part b0) p = absurd (apart 0 2 p (omega arith))
    part_inj (truth a0) no_part p = absurd (apart 1 0 p (omega arith))
    part_inj (truth a0) (truth b0) p = λ i. truth (coded_bool.inj a0 b0 (ap (λ g. tail g) p) i)
    part_inj (truth a0) (part b0) p = absurd (apart 1 2 p (omega arith))
    part_inj (part a0) no_part p = absurd (apart 2 0 p (omega arith))
    part_inj (part a0) (truth b0) p = absurd (apart 2 1 p (omega arith))
    part_inj (part a0) (part b0) p = λ i. part (schema_inj a0 b0 (ap (λ g. tail g) p) i)

  abbrev pub coded_schema : Coded (SchemaOf X)
  coded_schema = record { code = schema_code; inj = schema_inj }
