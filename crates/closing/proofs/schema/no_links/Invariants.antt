use Rattle.std.proofs.Common.{◌≡◌, ℕ, length}
use Rattle.inlining.specs.Inlining.{targets_of, IsAmong}
use Rattle.closing.proofs.schema.no_links.Given as goal

-- so many so far, of which none has links
abbrev pub invariant-loop : goal.invariant-loop
invariant-loop l = record {
  many : length l.links ≡ l.counter;
  none : (n m : ℕ) → ¬ (IsAmong m (targets_of l.links n));
}
