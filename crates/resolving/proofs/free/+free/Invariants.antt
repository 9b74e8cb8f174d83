use Rattle.std.proofs.Common.{◌≡◌, drop}
use Rattle.open_types.specs.Open.{opens_view}
use Rattle.resolving.specs.Free.{hold_free}
use Rattle.resolving.proofs.free.+free.Given as goal

-- what is left holds it where the whole does
abbrev pub invariant-hold_free-loop-ty : goal.invariant-hold_free-loop-ty
invariant-hold_free-loop-ty l = hold_free (opens_view (drop l.ty-index l.types)) ≡ hold_free (opens_view l.types)
