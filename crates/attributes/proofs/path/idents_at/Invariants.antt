use Rattle.std.proofs.Common.{◌≡◌, ◌<◌, length}
use Rattle.words.specs.Words.{words_view}
use Rattle.attributes.specs.AttributeReading.{with_before, more_idents_at, idents_at}
use Rattle.attributes.proofs.path.idents_at.Given as goal

abbrev pub invariant-idents : goal.invariant-idents
invariant-idents l = (with_before l.idents (more_idents_at (words_view l.rest)) ≡ idents_at (words_view l.trees)) × (length l.rest < length l.trees)

abbrev pub decreases-idents : goal.decreases-idents
decreases-idents l = length l.rest
