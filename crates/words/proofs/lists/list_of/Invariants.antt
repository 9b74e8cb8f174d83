use Rattle.std.proofs.Common.{length, map}
use Rattle.words.specs.Words.{words_view}
use Rattle.words.specs.Lists.{itself, turn_at, list_of}
use Rattle.words.proofs.Many.{SoFar}
use Rattle.words.proofs.lists.list_of.Given as goal

abbrev pub invariant-items : goal.invariant-items
invariant-items g l = SoFar itself (turn_at g.I.ReadItem.reader) (map g.I.ReadItem.form_of l.items) (words_view l.rest) (list_of g.I.ReadItem.reader (words_view l.trees))

abbrev pub decreases-items : goal.decreases-items
decreases-items g l = length l.rest
