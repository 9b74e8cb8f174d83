-- Type trees are equal exactly where they are the same without their spans.
use Rattle.std.proofs.Common.{◌≡◌, Bool, refl, ap, sym, List, [], ◌∷◌, map, subst, Option, Some, None, Vec}
use Rattle.std.specs.Prelude.{option_map}
use Rattle.std.specs.Bool.{Decides}
use Rattle.std.specs.Cmp.Lexicographic.{pointwise}
use Rattle.std.specs.Global.{Global}
use Rattle.std.specs.List.{AllByRecursion}
use Rattle.std.specs.Option.{option_eq}
use Rattle.std.proofs.lemmas.Bool.Decides.{Decides-and, Decides-at, Decides-like}
use denote.Enum.Bare.{same_true, true_same}
use Rattle.texts.specs.declared.span.Span.{Span}
use Rattle.written_types.specs.declared.written.Path.{Path}
use Rattle.written_types.specs.contracts.written.PathPartialEq.TheImpl as written_eq
use Rattle.written_types.specs.Written.{path_view}
use Rattle.written_types.specs.Spanless.{path_without_spans}
use Rattle.type_tree.specs.declared.path.SchemaPath.{SchemaPath}
use Rattle.type_tree.specs.declared.path.SchemaPath.TheVariants as paths
use Rattle.type_tree.specs.declared.tree.ValueType.{ValueType}
use Rattle.type_tree.specs.declared.tree.GenericType.{GenericType}
use Rattle.type_tree.specs.declared.tree.TypeTree.{TypeTree}
use Rattle.type_tree.specs.declared.tree.TypeTree.TheFolds.{ind-TypeTree, map-TypeTree}
use Rattle.type_tree.specs.declared.tree.TypeTree.TheOpen.{TypeTree-F}
use Rattle.type_tree.specs.declared.tree.TypeTree.TheViews.{out-TypeTree, out-roll-TypeTree, roll-TypeTree}
use Rattle.type_tree.specs.contracts.path.SchemaPathPartialEq.TheImpl as path_eq
use Rattle.type_tree.specs.contracts.tree.ValueType as value_contracts
use Rattle.type_tree.specs.contracts.tree.ValueTypePartialEq.TheImpl as value_eq
use Rattle.type_tree.specs.contracts.tree.GenericType as kind_contracts
use Rattle.type_tree.specs.contracts.tree.GenericTypePartialEq.TheImpl as kind_eq
use Rattle.type_tree.specs.contracts.tree.TypeTreePartialEq.TheImpl as tree_eq
use Rattle.type_tree.specs.contracts.tree.TypeTreePartialEq.TheImpl.Laws as tree_laws
use Rattle.type_tree.specs.TypeTrees.{children, written_path, schema_path_view, shown_children, tree_view, trees_view}
use Rattle.type_tree.specs.Spanless.{tree_path_without_spans, tree_without_spans, children_without_spans, trees_without_spans}
use Rattle.type_tree.proofs.Views.{view_is}

abbrev same_schema_paths : SchemaPath → SchemaPath → Bool
same_schema_paths = (path_eq.ghosts).eq

abbrev same_values : ValueType → ValueType → Bool
same_values = (value_eq.ghosts).eq

abbrev same_kinds : GenericType → GenericType → Bool
same_kinds = (kind_eq.ghosts).eq

abbrev same_trees : TypeTree → TypeTree → Bool
same_trees = (tree_eq.ghosts).eq

values : (a b : ValueType) → Decides (same_values a b) (a ≡ b)
values a b = (same_true value_contracts.the_type _ a b, true_same value_contracts.the_type a b)

kinds : (o p : Option GenericType) → Decides (option_eq same_kinds o p) (o ≡ p)
kinds None None = (λ e. refl, λ e. refl)
kinds None (Some b) = (λ e. cc, λ e. cc)
kinds (Some a) None = (λ e. cc, λ e. cc)
kinds (Some a) (Some b) = Decides-like _ (λ e. ap Some e) (λ e. cc) (same_true kind_contracts.the_type _ a b, true_same kind_contracts.the_type a b)

-- where written paths are told apart by text
module _ (written : (p q : Path) → Decides ((written_eq.ghosts).eq p q) (path_without_spans (path_view p) ≡ path_without_spans (path_view q))) where
  pub schema_paths_equal : (p q : SchemaPath) → Decides (same_schema_paths p q) (tree_path_without_spans (schema_path_view p) ≡ tree_path_without_spans (schema_path_view q))
  schema_paths_equal (paths.Written p) (paths.Written q) = Decides-like _ (λ e. ap written_path e) (λ e. cc) (written p.now q.now)
  schema_paths_equal (paths.Written p) paths.Array = (λ e. cc, λ e. cc)
  schema_paths_equal paths.Array (paths.Written q) = (λ e. cc, λ e. cc)
  schema_paths_equal paths.Array paths.Array = (λ e. refl, λ e. refl)

  maybe_paths : (o p : Option SchemaPath)
      → Decides (option_eq same_schema_paths o p) (option_map tree_path_without_spans (option_map schema_path_view o) ≡ option_map tree_path_without_spans (option_map schema_path_view p))
  maybe_paths None None = (λ e. refl, λ e. refl)
  maybe_paths None (Some q) = (λ e. cc, λ e. cc)
  maybe_paths (Some p) None = (λ e. cc, λ e. cc)
  maybe_paths (Some p) (Some q) = Decides-like _ (λ e. ap Some e) (λ e. cc) (schema_paths_equal p q)

  abbrev EqualTree : TypeTree → Type 0
  EqualTree t = (u : TypeTree) → Decides (same_trees t u) (tree_without_spans (tree_view t) ≡ tree_without_spans (tree_view u))

  abbrev EachIn : Option (Vec TypeTree Global) → Type 0
  EachIn None = Unit {0}
  EachIn (Some ts) = AllByRecursion EqualTree ts.items

  trees : (ts us : List TypeTree) → AllByRecursion EqualTree ts → Decides (pointwise same_trees ts us) (trees_without_spans (trees_view ts) ≡ trees_without_spans (trees_view us))
  trees [] [] each = (λ e. refl, λ e. refl)
  trees [] (u ∷ us) each = (λ e. cc, λ e. cc)
  trees (t ∷ ts) [] each = (λ e. cc, λ e. cc)
  trees (t ∷ ts) (u ∷ us) each = Decides-like _ (λ p. cc) (λ e. (cc, cc)) (Decides-and _ _ (each.0 u) (trees ts us each.1))

  child_trees : (o p : Option (Vec TypeTree Global)) → EachIn o
      → Decides (option_eq (λ x y. pointwise same_trees x.items y.items) o p) (children_without_spans (shown_children o) ≡ children_without_spans (shown_children p))
  child_trees None None each = (λ e. refl, λ e. refl)
  child_trees None (Some us) each = (λ e. cc, λ e. cc)
  child_trees (Some ts) None each = (λ e. cc, λ e. cc)
  child_trees (Some ts) (Some us) each = Decides-like _ (λ e. ap children e) (λ e. cc) (trees ts.items us.items each)

  by_each : (t u : TypeTree) → EachIn (out-TypeTree t).children → Decides (same_trees t u) (tree_without_spans (tree_view t) ≡ tree_without_spans (tree_view u))
  by_each t u each =
      let a = out-TypeTree t in
      let b = out-TypeTree u in
      let e = ap tree_without_spans (view_is t) in
      let f = ap tree_without_spans (view_is u) in
      Decides-at _ _ (tree_laws.is t u) (Decides-like _ (λ p. cc) (λ k. (cc, (cc, (cc, cc))))
      (Decides-and _ _ (maybe_paths a.path b.path) (Decides-and _ _ (values a.value_type b.value_type) (Decides-and _ _ (kinds a.generic_type b.generic_type) (child_trees a.children b.children each)))))

  -- ---- by induction
  each_beside : (ts : List ((t : TypeTree) × EqualTree t)) → AllByRecursion EqualTree (map (λ e. e.0) ts)
  each_beside [] = tt
  each_beside (t ∷ ts) = (t.1, each_beside ts)

  abbrev alone : TypeTree-F ((t : TypeTree) × EqualTree t) → TypeTree-F TypeTree
  alone = map-TypeTree _ TypeTree (λ e. e.0)

  each_in : (x : TypeTree-F TypeTree) (p : Option SchemaPath) (s : Option Span) (v : ValueType) (g : Option GenericType) (o : Option (Vec ((t : TypeTree) × EqualTree t) Global))
      → alone record { path = p; span = s; value_type = v; generic_type = g; children = o } ≡ x → EachIn x.children
  each_in x p s v g None is = subst EachIn (ap (λ y. y.children) is) tt
  each_in x p s v g (Some ts) is = subst EachIn (ap (λ y. y.children) is) (each_beside ts.items)

  in_tree : (x : TypeTree-F TypeTree) (y : TypeTree-F ((t : TypeTree) × EqualTree t)) → alone y ≡ x → EqualTree (roll-TypeTree x)
  in_tree x y is u = by_each (roll-TypeTree x) u (subst (λ v. EachIn v.children) (sym (out-roll-TypeTree x)) (each_in x y.path y.span y.value_type y.generic_type y.children is))

  pub trees_equal : (t u : TypeTree) → Decides (same_trees t u) (tree_without_spans (tree_view t) ≡ tree_without_spans (tree_view u))
  trees_equal = ind-TypeTree EqualTree in_tree
