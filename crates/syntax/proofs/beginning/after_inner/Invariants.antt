use Rattle.std.proofs.Common.{◌≡◌, length}
use Rattle.words.specs.Words.{words_view}
use Rattle.syntax.specs.ItemReading.{after_inner}
use Rattle.syntax.proofs.beginning.after_inner.Given as goal

abbrev pub invariant-inner : goal.invariant-inner
invariant-inner l = after_inner (words_view l.rest) ≡ after_inner (words_view l.trees)

abbrev pub decreases-inner : goal.decreases-inner
decreases-inner l = length l.rest
