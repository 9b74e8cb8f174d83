use Rattle.std.proofs.Common.{◌∙◌, ap, sym, map}
use Rattle.tokens.specs.Trees.{tree_view}
use Rattle.prepare.specs.Trees.{inside}
use Rattle.prepare.proofs.Groups.{inside_group}
use Rattle.prepare.proofs.trees.inside.Goals as goal

pub returns-in-Group : goal.returns-in-Group
returns-in-Group c = ap (map tree_view) c.as_slice.ensures ∙ inside_group c.in-Group.group ∙ ap (λ t. inside (tree_view t)) (sym c.in-Group.is)
