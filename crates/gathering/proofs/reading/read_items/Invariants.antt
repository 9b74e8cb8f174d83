use Rattle.std.proofs.Common.{map, take}
use Rattle.gathering.specs.Reading.{HasRead}
use Rattle.gathering.proofs.reading.read_items.Given as goal

-- the items so far are read, or told of
abbrev pub invariant-loop-item : goal.invariant-loop-item
invariant-loop-item l = HasRead l.names (map (λ i. i.now) (take l.item-index l.items)) l.reading
