use Rattle.std.proofs.Common.{◌≡◌, take, map}
use Rattle.syntax.specs.Items.{parameter_view}
use Rattle.scopes.specs.Parameters.{parameters_of}
use Rattle.scopes.proofs.parameters.parameters_of.Given as goal

-- those so far
abbrev pub invariant-loop-param : goal.invariant-loop-param
invariant-loop-param l = l.idents ≡ parameters_of l.kind (map parameter_view (take l.param-index l.params))
