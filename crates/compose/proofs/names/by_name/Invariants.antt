use Rattle.std.proofs.Common.{◌≡◌, map, take}
use Rattle.scopes.specs.Names.{declared_names}
use Rattle.syntax.specs.Items.{declaration_view}
use Rattle.shapes.specs.Declarations.{declaration_names}
use Rattle.shapes.specs.Views.{declaration_view as resolved_view}
use Rattle.compose.proofs.names.by_name.Given as goal

-- the names so far
abbrev pub invariant-loop-declaration : goal.invariant-loop-declaration
invariant-loop-declaration l = declaration_names (map resolved_view l.resolved) ≡ declared_names (map declaration_view (take l.declaration-index l.declaration-items))
