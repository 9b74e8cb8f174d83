-- A tag behind other properties.
use Rattle.std.proofs.Common.{ℕ, List, [], ◌∷◌, ◌++◌, map, ◌≡◌, ◌∙◌, refl, ap}
use Rattle.std.proofs.lemmas.List.{map_push}
use Rattle.schema_trees.specs.declared.tree.Tree.{Tree}
use Rattle.schema_trees.specs.Schema.{SchemaOf, named_view, named_views, properties_of}
use Rattle.schema_trees.specs.Schema as tree
use Rattle.component.specs.declared.term.TermLeaf.{TermLeaf}
use Rattle.component.specs.Leaves.{LeafOf, leaf_view, term_view}
use Rattle.terms.specs.Terms.{with_property}

with-pushed : (ps : List (List ℕ × SchemaOf LeafOf)) (k : List ℕ) (s : SchemaOf LeafOf) → properties_of (ps ++ (k, s) ∷ []) ≡ with_property (properties_of ps) k s
with-pushed [] k s = refl
with-pushed (p ∷ ps) k s = ap (tree.property p.0 p.1) (with-pushed ps k s)

-- the properties so far, and one behind them
pub with-last : (ps : List (List ℕ × Tree TermLeaf)) (k : List ℕ) (t : Tree TermLeaf) → named_views leaf_view (ps ++ (k, t) ∷ []) ≡ with_property (named_views leaf_view ps) k (term_view t)
with-last ps k t = ap properties_of (map_push (named_view leaf_view) ps (k, t)) ∙ with-pushed (map (named_view leaf_view) ps) k (term_view t)
