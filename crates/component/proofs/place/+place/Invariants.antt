use Rattle.std.proofs.Common.{◌≡◌, map, take}
use Rattle.component.specs.Leaves.{term_view}
use Rattle.component.proofs.Places.{item_place}
use Rattle.component.proofs.place.+place.Given as goal

-- the schemas so far are those of the items so far
abbrev pub invariant-inline_places-loop-ty : goal.invariant-inline_places-loop-ty
invariant-inline_places-loop-ty l = map term_view l.items ≡ map item_place (take l.ty-index l.types)
