-- What a term leaves open: parameters and declarations.
use Rattle.std.specs.Prelude.{ℕ, Bool}
use Rattle.open_types.specs.Open.{Open, open_view}
use Rattle.schema_trees.specs.declared.annotations.AnnotationKeywords.{AnnotationKeywords as Annotations}
use Rattle.schema_trees.specs.declared.tree.Tree.{Tree}
use Rattle.schema_trees.specs.Schema.{SchemaOf, tree_view}
use Rattle.component.specs.declared.term.TermLeaf.{TermLeaf}

-- the parameter at a place; a declaration with its arguments, whether its schema stands there itself, and what annotates a reference
pub data LeafOf : Type 0 where
  param : ℕ → LeafOf
  named : Open → Bool → Annotations → LeafOf

abbrev pub leaf_view : TermLeaf → LeafOf
leaf_view (TermLeaf.Param i) = param i
leaf_view (TermLeaf.Named of inline annotations) = named (open_view of) inline annotations

abbrev pub term_view : Tree TermLeaf → SchemaOf LeafOf
term_view = tree_view leaf_view
