use Rattle.std.proofs.Common.{◌≡◌, drop, false}
use Rattle.literal_values.proofs.Reading.{read_on}
use Rattle.literal_values.proofs.numbers.number_in.Given as goal

abbrev pub invariant-loop-byte : goal.invariant-loop-byte
invariant-loop-byte l = read_on l.base l.number l.has_digits (drop l.byte-index l.text) ≡ read_on l.base 0 false l.text
