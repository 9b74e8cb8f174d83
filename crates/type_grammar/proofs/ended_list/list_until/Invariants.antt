use Rattle.std.proofs.Common.{◌≤◌, length, map}
use Rattle.words.specs.Words.{words_view}
use Rattle.type_grammar.specs.Reading.{ends_at, list_until}
use Rattle.type_grammar.proofs.Lists.{SoFar}
use Rattle.type_grammar.proofs.ended_list.list_until.Given as goal

abbrev pub invariant-list : goal.invariant-list
invariant-list g l =
    (length l.rest ≤ length l.trees)
    × SoFar (ends_at l.end) g.I.ReadItem.reader (map g.I.ReadItem.form_of l.items) (words_view l.rest) (list_until (ends_at l.end) g.I.ReadItem.reader (words_view l.trees))

abbrev pub decreases-list : goal.decreases-list
decreases-list g l = length l.rest
