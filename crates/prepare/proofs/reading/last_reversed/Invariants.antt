use Rattle.std.proofs.Common.{◌≡◌, ◌-◌, length, take, drop}
use Rattle.std.specs.Prelude.{reverse}
use Rattle.prepare.proofs.reading.last_reversed.Given as goal

abbrev pub invariant-loop-i : goal.invariant-loop-i
invariant-loop-i l = record {
  left : l.trees ≡ take (length l.initial.trees - l.i) l.initial.trees;
  last : l.last ≡ reverse (drop (length l.initial.trees - l.i) l.initial.trees);
}
