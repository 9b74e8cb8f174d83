use Rattle.std.proofs.Common.{◌≡◌, ◌≤◌, length}
use Rattle.words.specs.Words.{words_view}
use Rattle.type_grammar.specs.Reading.{after_lifetimes}
use Rattle.type_grammar.proofs.parts.after_lifetimes.Given as goal

abbrev pub invariant-skipping : goal.invariant-skipping
invariant-skipping l = (length l.rest ≤ length l.trees) × (after_lifetimes (words_view l.rest) ≡ after_lifetimes (words_view l.trees))

abbrev pub decreases-skipping : goal.decreases-skipping
decreases-skipping l = length l.rest
