use Rattle.std.proofs.Common.{◌≡◌, ◌++◌, length, map}
use Rattle.scopes.specs.Names.{declared_names}
use Rattle.syntax.specs.Items.{declaration_view, declarations_view}
use Rattle.selecting.proofs.clashes.declared_names.Given as goal

abbrev pub invariant-items : goal.invariant-items
invariant-items l = l.names ++ declared_names (map declaration_view l.rest) ≡ declared_names (declarations_view l.declarations)

abbrev pub decreases-items : goal.decreases-items
decreases-items l = length l.rest
