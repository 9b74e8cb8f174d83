use Rattle.std.proofs.Common.{length, map}
use Rattle.words.specs.Words.{words_view}
use Rattle.words.proofs.Laws.{SoFar}
use Rattle.syntax.specs.Items.{declaration_view}
use Rattle.syntax.specs.ItemDepth.{within_levels}
use Rattle.syntax.specs.ItemReading.{kept, item_at, items_at}
use Rattle.syntax.proofs.items.items_of.Given as goal

abbrev pub invariant-items : goal.invariant-items
invariant-items l = SoFar kept (item_at within_levels) (map declaration_view l.items) (words_view l.rest) (items_at within_levels (words_view l.trees))

abbrev pub decreases-items : goal.decreases-items
decreases-items l = length l.rest
