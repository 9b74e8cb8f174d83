use Rattle.std.proofs.Common.{◌≡◌, ℕ, length}
use Rattle.inlining.specs.Inlining.{targets_of, IsAmong}
use Rattle.plainness.proofs.turned.none_of.Given as goal

-- so many so far, of which none has anything
abbrev pub invariant-loop : goal.invariant-loop
invariant-loop l = record {
  many : length l.lists.items ≡ l.counter;
  none : (n m : ℕ) → ¬ (IsAmong m (targets_of l.lists.items n));
}
