-- The numbers of the instances that terms name, one term after another.
use Rattle.std.specs.List.{filter_map}
use Rattle.std.proofs.Common.{ℕ, List, [], ◌∷◌, ◌++◌, Option, ◌≡◌, refl, ap, sym, ◌∙◌, rules}
use Rattle.std.proofs.lemmas.List.{append_assoc}
use Rattle.std.proofs.lemmas.List.Elements.{filter_map-append}
use Rattle.schema_trees.specs.declared.tree.Tree.{Tree, the_lemmas}
use Rattle.schema_trees.specs.declared.tree.Object.{Object}
use Rattle.schema_trees.specs.declared.tree.Array.{Array}
use Rattle.schema_trees.specs.Schema.{object_facts, ArrayFacts, object, array, tree_views, named_views, object_view, additional_view, optional_view, array_view, array_items_view}
use Rattle.open_types.specs.Open.{Open}
use Rattle.component.specs.declared.term.TermLeaf.{TermLeaf}
use Rattle.component.specs.Leaves.{leaf_view, term_view}
use Rattle.component.specs.References.{ReferenceOf, named_leaves, schema_leaves, property_leaves, part_leaves}
use Rattle.instances.specs.Lists.{number_in}
use Rattle.closing.specs.Links.{numbered}

-- an object by its fields
object_view-is : (o : Object TermLeaf) → object_view leaf_view o ≡ object (object_facts o) (named_views leaf_view o.properties) (additional_view leaf_view o.additional) (optional_view leaf_view o.property_names)
object_view-is o = search (rules, the_lemmas)

-- an array by its fields
abbrev array_facts_of : Array TermLeaf → ArrayFacts
array_facts_of a = record { nullable = a.nullable; unique = a.unique; max_items = a.max_items; min_items = a.min_items; annotations = a.annotations }

array_view-is : (a : Array TermLeaf) → array_view leaf_view a ≡ array (array_facts_of a) (tree_views leaf_view a.prefix_items) (array_items_view leaf_view a.items)
array_view-is a = search (rules, the_lemmas)

-- the numbers of what is picked among the references
abbrev pub picked : (ReferenceOf → Option Open) → List Open → List ReferenceOf → List ℕ
picked pick is rs = numbered is (filter_map pick rs)

-- of all terms, and of the schemas of all properties
abbrev pub all_picked : (ReferenceOf → Option Open) → List Open → List (Tree TermLeaf) → List ℕ
all_picked pick is [] = []
all_picked pick is (t ∷ ts) = picked pick is (named_leaves (term_view t)) ++ all_picked pick is ts

abbrev pub property_picked : (ReferenceOf → Option Open) → List Open → List (List ℕ × Tree TermLeaf) → List ℕ
property_picked pick is [] = []
property_picked pick is (p ∷ ps) = picked pick is (named_leaves (term_view p.1)) ++ property_picked pick is ps

module _ (pick : ReferenceOf → Option Open) (is : List Open) where
  picked-append : (rs qs : List ReferenceOf) → picked pick is (rs ++ qs) ≡ picked pick is rs ++ picked pick is qs
  picked-append rs qs = ap (numbered is) (filter_map-append pick rs qs) ∙ filter_map-append (number_in is) (filter_map pick rs) (filter_map pick qs)

  pub all_picked-are : (ts : List (Tree TermLeaf)) → all_picked pick is ts ≡ picked pick is (schema_leaves (tree_views leaf_view ts))
  all_picked-are [] = refl
  all_picked-are (t ∷ ts) =
      ap (λ ds. picked pick is (named_leaves (term_view t)) ++ ds) (all_picked-are ts)
      ∙ sym (picked-append (named_leaves (term_view t)) (schema_leaves (tree_views leaf_view ts)))

  pub property_picked-are : (ps : List (List ℕ × Tree TermLeaf)) → property_picked pick is ps ≡ picked pick is (property_leaves (named_views leaf_view ps))
  property_picked-are [] = refl
  property_picked-are (p ∷ ps) =
      ap (λ ds. picked pick is (named_leaves (term_view p.1)) ++ ds) (property_picked-are ps)
      ∙ sym (picked-append (named_leaves (term_view p.1)) (property_leaves (named_views leaf_view ps)))

  -- more is found: what an object's properties name, its names and its values
  pub object-picked : (o : Object TermLeaf) (found : List ℕ) →
      ((found ++ picked pick is (property_leaves (named_views leaf_view o.properties))) ++ picked pick is (part_leaves (optional_view leaf_view o.property_names))) ++ picked pick is (part_leaves (additional_view leaf_view o.additional))
      ≡ found ++ picked pick is (named_leaves (object_view leaf_view o))
  object-picked o found =
      let ps = property_leaves (named_views leaf_view o.properties) in
      let names = part_leaves (optional_view leaf_view o.property_names) in
      let values = part_leaves (additional_view leaf_view o.additional) in
      append_assoc (found ++ picked pick is ps) (picked pick is names) (picked pick is values)
      ∙ append_assoc found (picked pick is ps) (picked pick is names ++ picked pick is values)
      ∙ ap (λ ds. found ++ (picked pick is ps ++ ds)) (sym (picked-append names values))
      ∙ ap (λ ds. found ++ ds) (sym (picked-append ps (names ++ values)))
      ∙ ap (λ t. found ++ picked pick is (named_leaves t)) (sym (object_view-is o))

  -- what an array's elements in front name, and its others
  pub array-picked : (a : Array TermLeaf) (found : List ℕ) →
      (found ++ picked pick is (schema_leaves (tree_views leaf_view a.prefix_items))) ++ picked pick is (part_leaves (array_items_view leaf_view a.items)) ≡ found ++ picked pick is (named_leaves (array_view leaf_view a))
  array-picked a found =
      let front = schema_leaves (tree_views leaf_view a.prefix_items) in
      let rest = part_leaves (array_items_view leaf_view a.items) in
      append_assoc found (picked pick is front) (picked pick is rest)
      ∙ ap (λ ds. found ++ ds) (sym (picked-append front rest))
      ∙ ap (λ t. found ++ picked pick is (named_leaves t)) (sym (array_view-is a))
