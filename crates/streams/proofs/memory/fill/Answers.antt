use Rattle.std.proofs.Common.{arith}
use Rattle.std.proofs.lemmas.Grind.{common_steps}
use Rattle.streams.proofs.Told.{filled_front}
use Rattle.streams.proofs.memory.fill.Goals as goal

pub returns-clause-moved : goal.returns-clause-moved
returns-clause-moved c = filled_front c.args.at c.min-count.result c.args.bytes.now c.args.buffer.now c.copy_from_slice.new.self (grind (arith, common_steps)) (grind (arith, common_steps))
