use Rattle.std.proofs.Common.{ℕ, List}
use Rattle.prepare.specs.Reading.{Reads, window_of, to_read}
use Rattle.prepare.proofs.reading.Reading.read_inner.Given as goal

abbrev pub invariant-inner : goal.invariant-inner
invariant-inner l = (source : List ℕ) → Reads source l.initial.self (window_of l.initial.self) → Reads source l.self (window_of l.self)

abbrev pub decreases-inner : goal.decreases-inner
decreases-inner l = to_read l.self
