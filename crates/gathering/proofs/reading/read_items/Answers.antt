use Rattle.gathering.proofs.Together.{nothing_so_far}
use Rattle.gathering.proofs.reading.read_items.Goals as goal

pub loop-item-init : goal.loop-item-init
loop-item-init c = nothing_so_far c.args.names.now c.new.result c.new-2.result c.new-3.result c.new.ensures c.new-2.ensures c.new-3.ensures
