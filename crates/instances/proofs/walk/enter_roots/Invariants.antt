use Rattle.std.proofs.Common.{map}
use Rattle.shapes.specs.Views.{declaration_view}
use Rattle.instances.specs.Entering.{IsWalked, roots_among}
use Rattle.instances.proofs.walk.enter_roots.Given as goal

-- the roots among the declarations so far are entered
abbrev pub invariant-loop-place : goal.invariant-loop-place
invariant-loop-place l =
    let ss = map declaration_view l.declared in
    IsWalked ss l.bounds l.fn.types l.fn.found.instances l.types l.found (roots_among ss l.place)
