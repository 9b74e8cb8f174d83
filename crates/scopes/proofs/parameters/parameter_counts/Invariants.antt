use Rattle.std.proofs.Common.{◌≡◌, take, map}
use Rattle.syntax.specs.Items.{declaration_view}
use Rattle.scopes.specs.Parameters.{parameter_counts}
use Rattle.scopes.proofs.parameters.parameter_counts.Given as goal

-- those of the declarations so far
abbrev pub invariant-loop-declaration : goal.invariant-loop-declaration
invariant-loop-declaration l = l.counts ≡ parameter_counts (map declaration_view (take l.declaration-index l.declarations))
