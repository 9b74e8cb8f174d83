use Rattle.std.proofs.Common.{◌≡◌, ◌<◌, ◌≤◌, ℕ, length, get_or, drop, None}
use Rattle.instances.proofs.Numbers.{place_from}
use Rattle.instances.proofs.reach.numbers_of.Given as goal

-- the places that are left are entered
abbrev pub invariant-loop-left : goal.invariant-loop-left
invariant-loop-left l = record {
  few : l.left ≤ length l.instances;
  many : length l.numbers.items ≡ length l.types;
  placed : (n : ℕ) → n < length l.types → get_or l.numbers.items n None ≡ place_from l.left (drop l.left l.instances) n;
}

abbrev pub decreases-loop-left : goal.decreases-loop-left
decreases-loop-left l = l.left
