-- Components as they are lent, one by one.
use Rattle.std.specs.Prelude.{ℕ, List}
use Rattle.std.specs.Borrow.{Bor}
use Rattle.schema_trees.specs.declared.tree.Tree.{Tree}
use Rattle.schema_trees.specs.declared.tree.RefLeaf.{RefLeaf}
use Rattle.schema_trees.specs.Schema.{schema_view}
use Rattle.schema_core.specs.Document.{Entry}

-- a name and a schema, each behind a reference
abbrev pub lent_entry : Bor (List ℕ) × Bor (Tree RefLeaf) → Entry
lent_entry c = (c.0.now, schema_view c.1.now)
