use Rattle.std.proofs.Common.{◌≡◌, drop, map, take}
use Rattle.written_types.specs.Written.{written_view, arguments_view}
use Rattle.configuration.specs.Aliases.{bare, types_among}
use Rattle.configuration.proofs.TypeLaws.{kept}
use Rattle.configuration.proofs.bare.+bare.Given as goal

abbrev pub invariant-all_bare-loop-ty : goal.invariant-all_bare-loop-ty
invariant-all_bare-loop-ty l = map written_view l.found ≡ map (λ t. bare (written_view t)) (take l.ty-index l.types)

-- what was kept, and what is kept of the rest, is kept of all
abbrev pub invariant-types_among-loop-argument : goal.invariant-types_among-loop-argument
invariant-types_among-loop-argument l = kept l.found (drop l.argument-index l.arguments) ≡ types_among (arguments_view l.arguments)
