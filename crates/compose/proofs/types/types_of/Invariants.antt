use Rattle.std.proofs.Common.{◌≡◌, map, option_map, take}
use Rattle.std.specs.List.{filter_map}
use Rattle.texts.specs.Names.{place_in}
use Rattle.open_types.specs.Open.{open_view}
use Rattle.instances.specs.Lists.{instance_at}
use Rattle.compose.proofs.types.types_of.Given as goal

-- the instances of the names so far
abbrev pub invariant-loop-name : goal.invariant-loop-name
invariant-loop-name l = map open_view l.types ≡ filter_map (λ name. option_map (instance_at l.reach) (place_in name l.known)) (take l.name-index l.names)
