use Rattle.std.proofs.Common.{◌≡◌, ◌≤◌, length, map}
use Rattle.words.specs.Words.{words_view}
use Rattle.attributes.specs.Attributes.{attribute_view}
use Rattle.attributes.specs.AttributeReading.{with_before, attributes_at}
use Rattle.attributes.proofs.read.attributes_at.Given as goal

abbrev pub invariant-attributes : goal.invariant-attributes
invariant-attributes l = (with_before (map attribute_view l.attributes) (attributes_at (words_view l.rest)) ≡ attributes_at (words_view l.trees)) × (length l.rest ≤ length l.trees)

abbrev pub decreases-attributes : goal.decreases-attributes
decreases-attributes l = length l.rest
