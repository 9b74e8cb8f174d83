-- A ring of structs that flatten each other: its components, which refer to each other, and no value has the shape of one.
use Rattle.std.proofs.Common.{ℕ, zero, suc, List, [], ◌∷◌, ◌&&◌, true, false, None, codes, ◌≡◌, refl, ap}
use Rattle.acceptance.specs.Json.{Json}
use Rattle.schema_trees.specs.declared.tree.RefLeaf.{RefLeaf}
use Rattle.schema_trees.specs.Annotations.{no_annotations}
use Rattle.schema_trees.specs.Objects.{only_word}
use Rattle.schema_trees.specs.declared.tree.TypeWord.TheVariants.{Any}
use Rattle.schema_trees.specs.Schema.{SchemaOf, leaf, all_of, no_schemas, schema, no_properties, property, no_part}
use Rattle.open_types.specs.declared.open_type.ThroughHead.TheVariants.{Box}
use Rattle.open_types.specs.Open.{Open, any_value, through, named, no_types}
use Rattle.shapes.specs.Declarations.{MemberOf, named_fields, DeclarationOf, unannotated}
use Rattle.shapes.specs.InstanceShape.{shape}
use Rattle.shapes.specs.Plain.{IsPlainBody}
use Rattle.shapes.specs.Instances.{body_at}
use Rattle.shapes.specs.Shape.{is_map, member_fits}
use Rattle.terms.specs.Terms.{object_of}
use Rattle.closing.specs.Closed.{instance_schema}
use Rattle.closing.specs.Links.{targets_at, references_at}
use Rattle.closing.proofs.Examples.{declares}

-- struct A { #[serde(flatten)] b: Box<B>, v: Value }  struct B { #[serde(flatten)] a: Box<A> }
abbrev a : Open
a = named 0 no_types

abbrev b : Open
b = named 1 no_types

abbrev flattens : (name field : List ℕ) → Open → List MemberOf → DeclarationOf
flattens name field t ms = declares name 0 (named_fields (record { denies = false; flattened = record { name = field; annotations = unannotated; of = through Box t } ∷ []; map = None }) ms)

abbrev v_member : MemberOf
v_member = record { name = codes "v"; required = true; annotations = unannotated; of = any_value }

abbrev ring : List DeclarationOf
ring = flattens (codes "A") (codes "b") b (v_member ∷ []) ∷ flattens (codes "B") (codes "a") a [] ∷ []

abbrev a_reference : List ℕ → SchemaOf RefLeaf
a_reference name = leaf (record { name = name; annotations = no_annotations })

a_schema : instance_schema ring a
    ≡ all_of no_annotations (schema (a_reference (codes "B")) (schema (object_of no_annotations no_part (codes "v" ∷ []) (property (codes "v") (only_word Any no_annotations) no_properties)) no_schemas))
a_schema = refl

b_schema : instance_schema ring b ≡ all_of no_annotations (schema (a_reference (codes "A")) no_schemas)
b_schema = refl

links : (targets_at ring a ≡ []) × (references_at ring a ≡ b ∷ []) × (references_at ring b ≡ a ∷ [])
links = (refl, refl, refl)

are_plain : IsPlainBody ring (body_at ring a) × IsPlainBody ring (body_at ring b)
are_plain = ((((tt, tt), ((tt, tt), tt))), (tt, ((tt, tt), tt)))

nothing_fits : (depth : ℕ) (v : Json) → (shape ring depth a v ≡ false) × (shape ring depth b v ≡ false)
nothing_fits zero v = (refl, refl)
nothing_fits (suc depth) v =
    let before : (shape ring depth a v ≡ false) × (shape ring depth b v ≡ false) = nothing_fits depth v in
    (ap (λ s. (s && true) && is_map v (λ es. (member_fits (shape ring depth) es v_member && true) && true)) before.1, ap (λ s. (s && true) && is_map v (λ es. true)) before.0)
