use Rattle.std.proofs.Common.{◌≡◌, ◌++◌, length, map}
use Rattle.syntax.specs.Items.{declaration_view, declarations_view}
use Rattle.selecting.specs.Clashes.{parameter_names}
use Rattle.selecting.proofs.clashes.parameter_names.Given as goal

abbrev pub invariant-items : goal.invariant-items
invariant-items l = l.names ++ parameter_names (map declaration_view l.rest) ≡ parameter_names (declarations_view l.declarations)

abbrev pub decreases-items : goal.decreases-items
decreases-items l = length l.rest
