use Rattle.std.proofs.Common.{◌≡◌, map, take}
use Rattle.open_types.specs.Open.{open_view}
use Rattle.type_table.specs.Types.{type_at}
use Rattle.instances.proofs.reach.Reach.arguments.Given as goal

-- the arguments so far
abbrev pub invariant-loop-id : goal.invariant-loop-id
invariant-loop-id l = map open_view l.arguments ≡ map (type_at l.self-inside.types) (take l.id-index l.id-items)
