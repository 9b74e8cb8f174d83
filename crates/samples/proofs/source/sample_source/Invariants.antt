use Rattle.std.proofs.Common.{◌≡◌}
use Rattle.std.specs.List.{flat_map, range_with_len}
use Rattle.samples.specs.Samples.{numbered_text}
use Rattle.samples.proofs.source.sample_source.Given as goal

abbrev pub invariant-loop-number : goal.invariant-loop-number
invariant-loop-number l = l.text ≡ flat_map (numbered_text l.n) (range_with_len 0 l.number)
