use Rattle.std.proofs.Common.{◌≡◌, ◌≤◌, length}
use Rattle.words.specs.Words.{words_view}
use Rattle.syntax.specs.ItemWords.{from_comma}
use Rattle.syntax.proofs.variants.from_comma.Given as goal

abbrev pub invariant-trees : goal.invariant-trees
invariant-trees l = (from_comma (words_view l.rest) ≡ from_comma (words_view l.trees)) × (length l.rest ≤ length l.trees)

abbrev pub decreases-trees : goal.decreases-trees
decreases-trees l = length l.rest
