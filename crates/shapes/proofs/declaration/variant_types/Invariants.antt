use Rattle.std.proofs.Common.{◌≡◌, map, take}
use Rattle.open_types.specs.Open.{open_view}
use Rattle.shapes.specs.Declarations.{variant_types}
use Rattle.shapes.specs.Views.{variant_view}
use Rattle.shapes.proofs.declaration.variant_types.Given as goal

-- the types so far are those of the variants so far
abbrev pub invariant-loop-variant : goal.invariant-loop-variant
invariant-loop-variant l = map (λ ty. open_view ty.now) l.types.items ≡ variant_types (map variant_view (take l.variant-index l.variants))
