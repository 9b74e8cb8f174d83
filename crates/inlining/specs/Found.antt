-- Instances that are found, each once, and their marks.
use Rattle.std.specs.Prelude.{◌≡◌, ◌<◌, ◌≤◌, ◌⊎◌, ◌↔◌, ℕ, List, [], length, get_or, Bool, IsTrue}
use Rattle.inlining.specs.Inlining.{IsAmong, AreOnce}
use Rattle.inlining.specs.Marks.{mark}

-- Exactly those that are found have a mark, and each is found once.
pub record AreFound (marks : List Bool) (found : List ℕ) : Type 0 where
  pub once : AreOnce found
  pub marked : (n : ℕ) → IsTrue (mark marks n) ↔ IsAmong n found

-- none is found yet, of that many
pub record AreNone (count : ℕ) (marks : List Bool) (found : List ℕ) : Type 0 where
  pub many : length marks ≡ count
  pub are : AreFound marks found
  pub none : found ≡ []

-- The list grew at its end, and has what it had, the others, and nothing else.
pub record IsGrown (before others after : List ℕ) : Type 0 where
  pub longer : length before ≤ length after
  pub kept : (i : ℕ) → i < length before → get_or after i 0 ≡ get_or before i 0
  pub each : (n : ℕ) → IsAmong n after ↔ (IsAmong n before ⊎ IsAmong n others)
