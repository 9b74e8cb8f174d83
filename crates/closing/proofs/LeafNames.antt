-- A fact on what schemas name: of all that the leaves of a schema name, and of what each leaf names.
use Rattle.std.proofs.Common.{List, [], ◌++◌}
use Rattle.schema_trees.specs.Schema.{SchemaOf, leaf, object, array, one_of, all_of, SchemasOf, no_schemas, schema, PropertiesOf, no_properties, property, PartOf, no_part, truth, part, EachLeaf, EachSchemaLeaf, EachPropertyLeaf, EachPartLeaf}
use Rattle.component.specs.Leaves.{LeafOf}
use Rattle.component.specs.References.{ReferenceOf, leaf_references, named_leaves, schema_leaves, property_leaves, part_leaves}

module _ (Q : List ReferenceOf → Type 0) where
  abbrev AtLeaf : LeafOf → Type 0
  AtLeaf x = Q (leaf_references x)

  -- where it holds of the parts of a list, what holds of all holds at each leaf
  module _ (front : (xs ys : List ReferenceOf) → Q (xs ++ ys) → Q xs) (back : (xs ys : List ReferenceOf) → Q (xs ++ ys) → Q ys) where
    mutual
      pub at-leaves : (s : SchemaOf LeafOf) → Q (named_leaves s) → EachLeaf AtLeaf s
      at-leaves (leaf x) h = h
      at-leaves (object facts ps additional names) h =
          let rest = back (property_leaves ps) (part_leaves names ++ part_leaves additional) h in (
            at-properties ps (front (property_leaves ps) (part_leaves names ++ part_leaves additional) h),
            (at-part additional (back (part_leaves names) (part_leaves additional) rest), at-part names (front (part_leaves names) (part_leaves additional) rest)),
          )
      at-leaves (array facts ss rest) h = (at-schemas ss (front (schema_leaves ss) (part_leaves rest) h), at-part rest (back (schema_leaves ss) (part_leaves rest) h))
      at-leaves (one_of annotations ss) h = at-schemas ss h
      at-leaves (all_of annotations ss) h = at-schemas ss h

      at-schemas : (ss : SchemasOf LeafOf) → Q (schema_leaves ss) → EachSchemaLeaf AtLeaf ss
      at-schemas no_schemas h = tt
      at-schemas (schema s ss) h = (at-leaves s (front (named_leaves s) (schema_leaves ss) h), at-schemas ss (back (named_leaves s) (schema_leaves ss) h))

      at-properties : (ps : PropertiesOf LeafOf) → Q (property_leaves ps) → EachPropertyLeaf AtLeaf ps
      at-properties no_properties h = tt
      at-properties (property k s ps) h = (at-leaves s (front (named_leaves s) (property_leaves ps) h), at-properties ps (back (named_leaves s) (property_leaves ps) h))

      at-part : (p : PartOf LeafOf) → Q (part_leaves p) → EachPartLeaf AtLeaf p
      at-part no_part h = tt
      at-part (truth b) h = tt
      at-part (part s) h = at-leaves s h

  -- where it holds of lists joined, what holds at each leaf holds of all
  module _ (none : Q []) (both : (xs ys : List ReferenceOf) → Q xs → Q ys → Q (xs ++ ys)) where
    mutual
      pub from-leaves : (s : SchemaOf LeafOf) → EachLeaf AtLeaf s → Q (named_leaves s)
      from-leaves (leaf x) h = h
      from-leaves (object facts ps additional names) h =
          both (property_leaves ps) (part_leaves names ++ part_leaves additional) (from-properties ps h.0) (both (part_leaves names) (part_leaves additional) (from-part names h.1.1) (from-part additional h.1.0))
      from-leaves (array facts ss rest) h = both (schema_leaves ss) (part_leaves rest) (from-schemas ss h.0) (from-part rest h.1)
      from-leaves (one_of annotations ss) h = from-schemas ss h
      from-leaves (all_of annotations ss) h = from-schemas ss h

      from-schemas : (ss : SchemasOf LeafOf) → EachSchemaLeaf AtLeaf ss → Q (schema_leaves ss)
      from-schemas no_schemas h = none
      from-schemas (schema s ss) h = both (named_leaves s) (schema_leaves ss) (from-leaves s h.0) (from-schemas ss h.1)

      from-properties : (ps : PropertiesOf LeafOf) → EachPropertyLeaf AtLeaf ps → Q (property_leaves ps)
      from-properties no_properties h = none
      from-properties (property k s ps) h = both (named_leaves s) (property_leaves ps) (from-leaves s h.0) (from-properties ps h.1)

      from-part : (p : PartOf LeafOf) → EachPartLeaf AtLeaf p → Q (part_leaves p)
      from-part no_part h = none
      from-part (truth b) h = none
      from-part (part s) h = from-leaves s h
