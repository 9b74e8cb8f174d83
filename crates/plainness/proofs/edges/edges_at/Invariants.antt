use Rattle.std.proofs.Common.{◌≡◌, map, take}
use Rattle.open_types.specs.Open.{open_view, opens_of, substituted}
use Rattle.open_types.specs.Instances.{arguments_of}
use Rattle.instances.specs.Lists.{instance_at}
use Rattle.plainness.specs.Edges.{numbers_among}
use Rattle.plainness.proofs.edges.edges_at.Given as goal

-- the numbers in the places so far
abbrev pub invariant-loop-ty : goal.invariant-loop-ty
invariant-loop-ty l =
    let args = arguments_of (instance_at l.reach l.number) in
    l.found ≡ numbers_among l.reach (opens_of (map (substituted args) (map (λ ty. open_view ty.now) (take l.ty-index l.ty-items))))
