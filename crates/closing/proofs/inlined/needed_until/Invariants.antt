use Rattle.std.proofs.Common.{◌≡◌, ◌<◌, ◌≤◌, ℕ, length, take, get_or}
use Rattle.inlining.specs.Inlining.{IsAmong, targets_of}
use Rattle.closing.specs.Texts.{AreNeeded, AreNeededTo, AreTargetsOf, AreTargetsTo}
use Rattle.closing.proofs.inlined.needed_until.Given as goal

-- as many as turns, and each is zero
abbrev pub invariant-loop : goal.invariant-loop
invariant-loop l = record {
  many : length l.until.items ≡ l.counter;
  zero : (n : ℕ) → get_or l.until.items n 0 ≡ 0;
}

-- none is behind the turn, and the targets of the turns so far are needed longer than to theirs, and what is needed no longer is one
abbrev pub invariant-loop-turn : goal.invariant-loop-turn
invariant-loop-turn l = record {
  many : length l.until.items ≡ length l.targets;
  below : (n : ℕ) → get_or l.until.items n 0 ≤ l.turn;
  needed : (i m : ℕ) → i < l.turn → IsAmong m (targets_of l.targets (get_or l.order i 0)) → i < get_or l.until.items m 0;
  no_longer : AreTargetsTo l.targets l.order l.turn l.until.items;
}

-- the same of all turns, and the targets of the components so far, and no others, are needed longer than to the last
abbrev pub invariant-loop-number : goal.invariant-loop-number
invariant-loop-number l = record {
  many : length l.until.items ≡ length l.targets;
  needed : AreNeeded l.targets l.order l.until.items;
  last : AreNeededTo l.targets (length l.order) (take l.number-index l.components) l.until.items;
  no_longer : AreTargetsTo l.targets l.order (length l.order) l.until.items;
  by_components : AreTargetsOf l.targets (length l.order) (take l.number-index l.components) l.until.items;
}
