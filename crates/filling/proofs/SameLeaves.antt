-- A schema with each leaf put at its own place is that schema.
use Rattle.std.proofs.Common.{◌≡◌, refl}
use Rattle.schema_trees.specs.Schema.{SchemaOf, leaf, object, array, one_of, all_of, SchemasOf, no_schemas, schema, PropertiesOf, no_properties, property, PartOf, no_part, truth, part, bind, bind_schemas, bind_properties, bind_part}

module _ {X : Type 0} where
  mutual
    pub bind-leaf : (s : SchemaOf X) → bind (λ x. leaf x) s ≡ s
    bind-leaf (leaf x) = refl
    bind-leaf (object facts ps additional names) = λ i. object facts (bind-properties ps i) (bind-part additional i) (bind-part names i)
    bind-leaf (array facts front rest) = λ i. array facts (bind-schemas front i) (bind-part rest i)
    bind-leaf (one_of annotations ss) = λ i. one_of annotations (bind-schemas ss i)
    bind-leaf (all_of annotations ss) = λ i. all_of annotations (bind-schemas ss i)

    bind-schemas : (ss : SchemasOf X) → bind_schemas (λ x. leaf x) ss ≡ ss
    bind-schemas no_schemas = refl
    bind-schemas (schema s ss) = λ i. schema (bind-leaf s i) (bind-schemas ss i)

    bind-properties : (ps : PropertiesOf X) → bind_properties (λ x. leaf x) ps ≡ ps
    bind-properties no_properties = refl
    bind-properties (property k s ps) = λ i. property k (bind-leaf s i) (bind-properties ps i)

    bind-part : (p : PartOf X) → bind_part (λ x. leaf x) p ≡ p
    bind-part no_part = refl
    bind-part (truth b) = refl
    bind-part (part s) = λ i. part (bind-leaf s i)
