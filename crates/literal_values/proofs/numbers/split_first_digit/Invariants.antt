use Rattle.std.proofs.Common.{◌≡◌, length}
use Rattle.literal_values.specs.Values.{plain}
use Rattle.literal_values.proofs.numbers.split_first_digit.Given as goal

abbrev pub invariant-signs : goal.invariant-signs
invariant-signs l = plain l.rest ≡ plain l.text

abbrev pub decreases-signs : goal.decreases-signs
decreases-signs l = length l.rest
