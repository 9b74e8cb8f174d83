use Rattle.std.proofs.Common.{◌≡◌, ℕ, length, take, get_or}
use Rattle.inlining.specs.Inlining.{IsAmong}
use Rattle.closing.proofs.inlined.raise.Given as goal

-- the targets so far have the turn, and the others what they had
abbrev pub invariant-loop-target : goal.invariant-loop-target
invariant-loop-target l = record {
  many : length l.until.items ≡ length l.fn.until.items;
  targets : (n : ℕ) → IsAmong n (take l.target-index l.targets) → get_or l.until.items n 0 ≡ l.turn;
  others : (n : ℕ) → ¬ (IsAmong n (take l.target-index l.targets)) → get_or l.until.items n 0 ≡ get_or l.fn.until.items n 0;
}
