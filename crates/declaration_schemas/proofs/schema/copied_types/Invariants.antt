use Rattle.std.proofs.Common.{◌≡◌, map, take}
use Rattle.open_types.specs.Open.{open_view}
use Rattle.declaration_schemas.proofs.schema.copied_types.Given as goal

-- the copies so far are equal to the types so far
abbrev pub invariant-loop-ty : goal.invariant-loop-ty
invariant-loop-ty l = map open_view l.copies ≡ map (λ ty. open_view ty.now) (take l.ty-index l.ty-items)
