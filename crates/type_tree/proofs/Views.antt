-- The view of a tree by the views of its fields.
use Rattle.std.proofs.Common.{◌≡◌, ap, sym, ◌∙◌, Option, Vec, rules}
use Rattle.std.specs.Prelude.{option_map}
use Rattle.std.specs.Global.{Global}
use Rattle.texts.specs.declared.span.Span.{Span}
use Rattle.type_tree.specs.declared.path.SchemaPath.{SchemaPath}
use Rattle.type_tree.specs.declared.tree.ValueType.{ValueType}
use Rattle.type_tree.specs.declared.tree.GenericType.{GenericType}
use Rattle.type_tree.specs.declared.tree.TypeTree.{TypeTree, the_lemmas}
use Rattle.type_tree.specs.declared.tree.TypeTree.TheViews.{out-TypeTree, roll-TypeTree}
use Rattle.type_tree.specs.TypeTrees.{tree, tree_view, schema_path_view, shown_children}

pub view_is : (t : TypeTree) → tree_view t ≡ tree (option_map schema_path_view (out-TypeTree t).path) (out-TypeTree t).span (out-TypeTree t).value_type (out-TypeTree t).generic_type (shown_children (out-TypeTree t).children)
view_is t = search (rules, the_lemmas)

pub rolled_is :
    (p : Option SchemaPath) (s : Option Span) (v : ValueType) (g : Option GenericType) (cs : Option (Vec TypeTree Global))
    → tree_view (roll-TypeTree record { path = p; span = s; value_type = v; generic_type = g; children = cs }) ≡ tree (option_map schema_path_view p) s v g (shown_children cs)
rolled_is p s v g cs = search (rules, the_lemmas)

-- a tree with children that look the same looks the same
pub same_view :
    (t : TypeTree) (cs : Option (Vec TypeTree Global)) → shown_children cs ≡ shown_children (out-TypeTree t).children
    → tree_view (roll-TypeTree record { path = (out-TypeTree t).path; span = (out-TypeTree t).span; value_type = (out-TypeTree t).value_type; generic_type = (out-TypeTree t).generic_type; children = cs }) ≡ tree_view t
same_view t cs same =
    rolled_is (out-TypeTree t).path (out-TypeTree t).span (out-TypeTree t).value_type (out-TypeTree t).generic_type cs
    ∙ ap (tree (option_map schema_path_view (out-TypeTree t).path) (out-TypeTree t).span (out-TypeTree t).value_type (out-TypeTree t).generic_type) same
    ∙ sym (view_is t)
