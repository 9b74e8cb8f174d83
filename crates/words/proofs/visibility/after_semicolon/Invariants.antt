use Rattle.std.proofs.Common.{◌≡◌, ◌≤◌, length}
use Rattle.words.specs.Words.{words_view}
use Rattle.words.specs.Visibility.{after_semicolon}
use Rattle.words.proofs.visibility.after_semicolon.Given as goal

abbrev pub invariant-trees : goal.invariant-trees
invariant-trees l = (after_semicolon (words_view l.rest) ≡ after_semicolon (words_view l.trees)) × (length l.rest ≤ length l.trees)

abbrev pub decreases-trees : goal.decreases-trees
decreases-trees l = length l.rest
