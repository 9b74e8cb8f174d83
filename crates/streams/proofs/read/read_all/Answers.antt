use Rattle.std.proofs.Common.{arith}
use Rattle.streams.proofs.Told.{longer_text}
use Rattle.streams.proofs.read.read_all.Goals as goal

pub returns-clause-too_long : goal.returns-clause-too_long
returns-clause-too_long g c = λ _. longer_text _ _ c.loop-buffer.bytes.items _ c.loop-buffer.invariant.given (grind arith)
