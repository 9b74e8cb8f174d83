use Rattle.std.proofs.Common.{◌≡◌, ◌≤◌, length}
use Rattle.words.specs.Words.{words_view}
use Rattle.syntax.specs.GenericReading.{after_lifetimes}
use Rattle.syntax.proofs.generics.after_lifetimes.Given as goal

abbrev pub invariant-chain : goal.invariant-chain
invariant-chain l = (after_lifetimes (words_view l.rest) ≡ after_lifetimes (words_view l.trees)) × (length l.rest ≤ length l.trees)

abbrev pub decreases-chain : goal.decreases-chain
decreases-chain l = length l.rest
