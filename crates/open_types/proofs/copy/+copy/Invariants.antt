use Rattle.std.proofs.Common.{◌≡◌, take, map}
use Rattle.open_types.specs.Open.{open_view}
use Rattle.open_types.proofs.copy.+copy.Given as goal

abbrev pub invariant-copy_types-loop-ty : goal.invariant-copy_types-loop-ty
invariant-copy_types-loop-ty l = map open_view l.copies ≡ map open_view (take l.ty-index l.types)
