use Rattle.std.proofs.Common.{◌≡◌, map}
use Rattle.open_types.specs.Open.{open_view}
use Rattle.resolving.specs.Resolved.{first_parameters}
use Rattle.resolving.proofs.arguments.own_parameters.Given as goal

-- the parameters so far
abbrev pub invariant-loop-place : goal.invariant-loop-place
invariant-loop-place l = map open_view l.parameters ≡ first_parameters l.place
