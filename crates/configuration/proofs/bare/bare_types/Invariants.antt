use Rattle.std.proofs.Common.{◌≡◌, map, take}
use Rattle.written_types.specs.Written.{written_view}
use Rattle.configuration.specs.Aliases.{bare}
use Rattle.configuration.proofs.bare.bare_types.Given as goal

abbrev pub invariant-loop-ty : goal.invariant-loop-ty
invariant-loop-ty l = map written_view l.found ≡ map (λ t. bare (written_view t)) (take l.ty-index l.types)
