use Rattle.std.proofs.Common.{map, take}
use Rattle.open_types.specs.Open.{open_view, substituted}
use Rattle.open_types.specs.Instances.{arguments_of}
use Rattle.type_table.specs.Types.{type_at}
use Rattle.shapes.specs.Views.{declaration_view}
use Rattle.instances.specs.Entering.{IsWalked}
use Rattle.instances.proofs.walk.enter_places.Given as goal

-- the places so far are entered
abbrev pub invariant-loop-ty : goal.invariant-loop-ty
invariant-loop-ty l =
    let ss = map declaration_view l.declared in
    let args = arguments_of (type_at l.fn.types l.fn.id) in
    IsWalked ss l.bounds l.fn.types l.fn.found.instances l.types l.found (map (substituted args) (map (λ ty. open_view ty.now) (take l.ty-index l.ty-items)))
