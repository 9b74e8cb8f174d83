-- What holds of the leaves of a schema: two facts at once, and schemas that are the same at each.
use Rattle.std.proofs.Common.{◌≡◌, refl}
use Rattle.schema_trees.specs.Schema.{SchemaOf, leaf, object, array, one_of, all_of, SchemasOf, no_schemas, schema, PropertiesOf, no_properties, property, PartOf, no_part, truth, part, bind, bind_schemas, bind_properties, bind_part, EachLeaf, EachSchemaLeaf, EachPropertyLeaf, EachPartLeaf}

-- ---- two facts at once

module _ {X : Type 0} (Q R S : X → Type 0) (f : (x : X) → Q x → R x → S x) where
  mutual
    pub each-both : (s : SchemaOf X) → EachLeaf Q s → EachLeaf R s → EachLeaf S s
    each-both (leaf x) a b = f x a b
    each-both (object facts ps additional names) a b = (properties-both ps a.0 b.0, (part-both additional a.1.0 b.1.0, part-both names a.1.1 b.1.1))
    each-both (array facts front rest) a b = (schemas-both front a.0 b.0, part-both rest a.1 b.1)
    each-both (one_of annotations ss) a b = schemas-both ss a b
    each-both (all_of annotations ss) a b = schemas-both ss a b

    schemas-both : (ss : SchemasOf X) → EachSchemaLeaf Q ss → EachSchemaLeaf R ss → EachSchemaLeaf S ss
    schemas-both no_schemas a b = tt
    schemas-both (schema s ss) a b = (each-both s a.0 b.0, schemas-both ss a.1 b.1)

    properties-both : (ps : PropertiesOf X) → EachPropertyLeaf Q ps → EachPropertyLeaf R ps → EachPropertyLeaf S ps
    properties-both no_properties a b = tt
    properties-both (property k s ps) a b = (each-both s a.0 b.0, properties-both ps a.1 b.1)

    part-both : (p : PartOf X) → EachPartLeaf Q p → EachPartLeaf R p → EachPartLeaf S p
    part-both no_part a b = tt
    part-both (truth b) c d = tt
    part-both (part s) a b = each-both s a b

-- ---- the same at each leaf

module _ {X Y : Type 0} (f g : X → SchemaOf Y) where
  mutual
    pub bind-same : (s : SchemaOf X) → EachLeaf (λ x. f x ≡ g x) s → bind f s ≡ bind g s
    bind-same (leaf x) h = h
    bind-same (object facts ps additional names) h = λ i. object facts (properties-same ps h.0 i) (part-same additional h.1.0 i) (part-same names h.1.1 i)
    bind-same (array facts front rest) h = λ i. array facts (schemas-same front h.0 i) (part-same rest h.1 i)
    bind-same (one_of annotations ss) h = λ i. one_of annotations (schemas-same ss h i)
    bind-same (all_of annotations ss) h = λ i. all_of annotations (schemas-same ss h i)

    schemas-same : (ss : SchemasOf X) → EachSchemaLeaf (λ x. f x ≡ g x) ss → bind_schemas f ss ≡ bind_schemas g ss
    schemas-same no_schemas h = refl
    schemas-same (schema s ss) h = λ i. schema (bind-same s h.0 i) (schemas-same ss h.1 i)

    properties-same : (ps : PropertiesOf X) → EachPropertyLeaf (λ x. f x ≡ g x) ps → bind_properties f ps ≡ bind_properties g ps
    properties-same no_properties h = refl
    properties-same (property k s ps) h = λ i. property k (bind-same s h.0 i) (properties-same ps h.1 i)

    part-same : (p : PartOf X) → EachPartLeaf (λ x. f x ≡ g x) p → bind_part f p ≡ bind_part g p
    part-same no_part h = refl
    part-same (truth b) h = refl
    part-same (part s) h = λ i. part (bind-same s h i)
