-- The parts of schemas that trees are, and of those with others put at their leaves.
use Rattle.std.proofs.Common.{ℕ, zero, suc, ◌<◌, arith, rules, Bool, false, Some, List, [], ◌∷◌, ◌≡◌, refl, ap, sym, ◌∙◌, length, map, get_or}
use Rattle.std.proofs.lemmas.List.{length-map}
use Rattle.acceptance.specs.Json.{list}
use Rattle.schema_trees.specs.declared.tree.Tree.{Tree, the_lemmas}
use Rattle.schema_trees.specs.declared.tree.Additional.TheVariants.{Truth, Of}
use Rattle.schema_trees.specs.declared.tree.ArrayItems.TheVariants.{False, Each}
use Rattle.schema_trees.specs.declared.tree.OneOfSchema.{OneOfSchema}
use Rattle.schema_trees.specs.declared.tree.AllOfSchema.{AllOfSchema}
use Rattle.schema_trees.specs.declared.tree.Array.{Array}
use Rattle.schema_trees.specs.declared.tree.Object.{Object}
use Rattle.schema_trees.specs.declared.tree.RefLeaf.{RefLeaf}
use Rattle.schema_trees.specs.Schema.{object_facts, ArrayFacts, SchemaOf, leaf, object, array, one_of, all_of, SchemasOf, no_schemas, schema, schema_count, PropertiesOf, no_properties, property, property_names, PartOf, no_part, truth, part, bind, bind_schemas, bind_properties, bind_part, one_of_view, all_of_view, object_view, array_view, additional_view, array_items_view, optional_view, tree_view, tree_views, named_views}
use Rattle.schema_core.specs.declared.alternatives.Alternatives.{Alternatives}
use Rattle.schema_core.specs.Form.{form_by, schema_forms, property_forms, schemas_form}
use Rattle.schema_core.proofs.Placed.{value_at}

-- ---- a schema by the fields of its tree

abbrev pub array_facts_of : {L : Type 0} → Array L → ArrayFacts
array_facts_of a = record { nullable = a.nullable; unique = a.unique; max_items = a.max_items; min_items = a.min_items; annotations = a.annotations }

module _ {L X : Type 0} (m : L → X) where
  pub object_view-is : (o : Object L) → object_view m o ≡ object (object_facts o) (named_views m o.properties) (additional_view m o.additional) (optional_view m o.property_names)
  object_view-is o = search (rules, the_lemmas)

  pub array_view-is : (a : Array L) → array_view m a ≡ array (array_facts_of a) (tree_views m a.prefix_items) (array_items_view m a.items)
  array_view-is a = search (rules, the_lemmas)

  pub one_of_view-is : (o : OneOfSchema L) → one_of_view m o ≡ one_of o.annotations (tree_views m o.items)
  one_of_view-is o = search (rules, the_lemmas)

  pub all_of_view-is : (a : AllOfSchema L) → all_of_view m a ≡ all_of a.annotations (tree_views m a.items)
  all_of_view-is a = search (rules, the_lemmas)

  -- parts by their variants
  pub additional-truth : (b : Bool) → additional_view m (Truth b) ≡ truth b
  additional-truth b = search (rules, the_lemmas)

  pub additional-of : (s : Tree L) → additional_view m (Of s) ≡ part (tree_view m s)
  additional-of s = search (rules, the_lemmas)

  pub items-false : array_items_view m False ≡ truth false
  items-false = search (rules, the_lemmas)

  pub items-each : (s : Tree L) → array_items_view m (Each s) ≡ part (tree_view m s)
  items-each s = search (rules, the_lemmas)

  -- as many as there are trees, and their names
  pub count-views : (ts : List (Tree L)) → schema_count (tree_views m ts) ≡ length ts
  count-views [] = refl
  count-views (t ∷ ts) = ap suc (count-views ts)

  pub names-views : (ps : List (List ℕ × Tree L)) → property_names (named_views m ps) ≡ map (λ p. p.0) ps
  names-views [] = refl
  names-views (p ∷ ps) = ap (λ ks. p.0 ∷ ks) (names-views ps)

-- ---- others put at its leaves

module _ {X Y : Type 0} (f : X → SchemaOf Y) where
  pub count-bound : (ss : SchemasOf X) → schema_count (bind_schemas f ss) ≡ schema_count ss
  count-bound no_schemas = refl
  count-bound (schema s ss) = ap suc (count-bound ss)

  pub names-bound : (ps : PropertiesOf X) → property_names (bind_properties f ps) ≡ property_names ps
  names-bound no_properties = refl
  names-bound (property k s ps) = ap (λ ks. k ∷ ks) (names-bound ps)

-- the schema itself, where each leaf is put at its place
module _ {X : Type 0} where
  mutual
    pub bind-leaf : (s : SchemaOf X) → bind (λ x. leaf x) s ≡ s
    bind-leaf (leaf x) = refl
    bind-leaf (object facts ps additional names) = λ i. object facts (bind_properties-leaf ps i) (bind_part-leaf additional i) (bind_part-leaf names i)
    bind-leaf (array facts front rest) = λ i. array facts (bind_schemas-leaf front i) (bind_part-leaf rest i)
    bind-leaf (one_of annotations ss) = λ i. one_of annotations (bind_schemas-leaf ss i)
    bind-leaf (all_of annotations ss) = λ i. all_of annotations (bind_schemas-leaf ss i)

    bind_schemas-leaf : (ss : SchemasOf X) → bind_schemas (λ x. leaf x) ss ≡ ss
    bind_schemas-leaf no_schemas = refl
    bind_schemas-leaf (schema s ss) = λ i. schema (bind-leaf s i) (bind_schemas-leaf ss i)

    bind_properties-leaf : (ps : PropertiesOf X) → bind_properties (λ x. leaf x) ps ≡ ps
    bind_properties-leaf no_properties = refl
    bind_properties-leaf (property k s ps) = λ i. property k (bind-leaf s i) (bind_properties-leaf ps i)

    bind_part-leaf : (p : PartOf X) → bind_part (λ x. leaf x) p ≡ p
    bind_part-leaf no_part = refl
    bind_part-leaf (truth b) = refl
    bind_part-leaf (part s) = λ i. part (bind-leaf s i)

-- ---- forms

-- a list of schemas, of which there is one
pub some_schemas : (by : Alternatives) (ss : SchemasOf RefLeaf) → 0 < schema_count ss → schemas_form (schema_forms by ss) ≡ Some (list (schema_forms by ss))
some_schemas by no_schemas h = absurd (omega arith)
some_schemas by (schema s ss) h = refl

pub form_names : (by : Alternatives) (ps : PropertiesOf RefLeaf) → map (λ e. e.0) (property_forms by ps) ≡ property_names ps
form_names by no_properties = refl
form_names by (property k s ps) = ap (λ ks. k ∷ ks) (form_names by ps)

pub form_count : (by : Alternatives) (ps : PropertiesOf RefLeaf) → length (property_names ps) ≡ length (property_forms by ps)
form_count by ps = sym (ap length (form_names by ps)) ∙ length-map (property_forms by ps) (λ e. e.0)

module _ {L X : Type 0} (m : L → X) (f : X → SchemaOf RefLeaf) where
  -- the value of a property
  pub value_at-property : (by : Alternatives) (ps : List (List ℕ × Tree L)) (i : ℕ) (p : List ℕ × Tree L) → i < length ps → p ≡ get_or ps i p → value_at (property_forms by (bind_properties f (named_views m ps))) i ≡ form_by by (bind f (tree_view m p.1))
  value_at-property by [] i p l h = absurd (omega arith)
  value_at-property by (q ∷ ps) zero p l h = ap (λ r. form_by by (bind f (tree_view m r.1))) (sym h)
  value_at-property by (q ∷ ps) (suc i) p l h = value_at-property by ps i p (omega arith) h

  -- the names of properties, in their order
  pub property_names_are : (by : Alternatives) (ps : List (List ℕ × Tree L)) → map (λ e. e.0) (property_forms by (bind_properties f (named_views m ps))) ≡ map (λ p. p.0) ps
  property_names_are by ps = form_names by (bind_properties f (named_views m ps)) ∙ names-bound f (named_views m ps) ∙ names-views m ps
