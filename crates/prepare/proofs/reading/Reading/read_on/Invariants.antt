use Rattle.std.proofs.Common.{◌≡◌, ℕ, ◌≤◌, List, false}
use Rattle.tokens.specs.Trees.{Tree}
use Rattle.lexing.specs.Chunks.{left_of}
use Rattle.prepare.specs.Reading.{Reads, Grows}
use Rattle.prepare.proofs.reading.Reading.read_on.Given as goal

abbrev pub invariant-chunks : goal.invariant-chunks
invariant-chunks l = record {
  grows : (source : List ℕ) (seen : List Tree) → Reads source l.initial.self seen → Grows source l.initial.self l.self seen;
  goes_on : l.self.is_whole ≡ false;
  left : left_of l.self.chunks ≤ left_of l.initial.self.chunks;
}

abbrev pub decreases-chunks : goal.decreases-chunks
decreases-chunks l = left_of l.self.chunks
