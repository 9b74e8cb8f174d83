-- The terms of declarations without parameters.
use Rattle.std.proofs.Common.{◌≡◌, refl, ap}
use Rattle.schema_trees.specs.Schema.{SchemaOf, leaf, object, array, one_of, all_of, SchemasOf, no_schemas, schema, PropertiesOf, no_properties, property, PartOf, no_part, truth, part, bind, bind_schemas, bind_properties, bind_part}
use Rattle.open_types.specs.Laws.{SubstitutedNone}
use Rattle.open_types.specs.Open.{no_types}
use Rattle.component.specs.Leaves.{LeafOf, param, named}
use Rattle.shapes.specs.Declarations.{declaration_at}
use Rattle.terms.specs.Terms.{term}
use Rattle.terms.specs.InstanceTerms.{with_arguments, RootTerms}

-- where each leaf stays, so does the schema
module _ {X : Type 0} (f : X → SchemaOf X) (same : (x : X) → f x ≡ leaf x) where
  mutual
    bind-stays : (s : SchemaOf X) → bind f s ≡ s
    bind-stays (leaf x) = same x
    bind-stays (object facts ps additional names) = λ i. object facts (properties-stay ps i) (part-stays additional i) (part-stays names i)
    bind-stays (array facts front rest) = λ i. array facts (schemas-stay front i) (part-stays rest i)
    bind-stays (one_of keywords ss) = λ i. one_of keywords (schemas-stay ss i)
    bind-stays (all_of keywords ss) = λ i. all_of keywords (schemas-stay ss i)

    schemas-stay : (ss : SchemasOf X) → bind_schemas f ss ≡ ss
    schemas-stay no_schemas = refl
    schemas-stay (schema s ss) = λ i. schema (bind-stays s i) (schemas-stay ss i)

    properties-stay : (ps : PropertiesOf X) → bind_properties f ps ≡ ps
    properties-stay no_properties = refl
    properties-stay (property k s ps) = λ i. property k (bind-stays s i) (properties-stay ps i)

    part-stays : (p : PartOf X) → bind_part f p ≡ p
    part-stays no_part = refl
    part-stays (truth b) = refl
    part-stays (part s) = λ i. part (bind-stays s i)

leaf-stays : SubstitutedNone → (x : LeafOf) → with_arguments no_types x ≡ leaf x
leaf-stays none (param i) = refl
leaf-stays none (named t inline keywords) = ap (λ u. leaf (named u inline keywords)) (none t)

pub root-terms : SubstitutedNone → RootTerms
root-terms none ss d = bind-stays (with_arguments no_types) (leaf-stays none) (term (declaration_at ss d))
