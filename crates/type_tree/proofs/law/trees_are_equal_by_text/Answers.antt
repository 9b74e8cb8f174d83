use Rattle.type_tree.proofs.Equal.{schema_paths_equal, trees_equal}
use Rattle.type_tree.proofs.law.trees_are_equal_by_text.Goals as goal

pub returns : goal.returns
returns c = let written = c.types_are_equal_by_text.ensures.path in record { path = schema_paths_equal written; tree = trees_equal written }
