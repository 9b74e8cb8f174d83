-- Which instances are shown, and which of them are components.
use Rattle.std.specs.Prelude.{ℕ, List}
use Rattle.inlining.specs.Inlining.{targets_of, IsAmong}

-- What is shown: the first, and with one its targets and what it refers to.
pub data IsShown (first : List ℕ) (targets references : List (List ℕ)) : ℕ → Type 0 where
  shown_first : (n : ℕ) → IsAmong n first → IsShown first targets references n
  shown_inline : (n m : ℕ) → IsShown first targets references n → IsAmong m (targets_of targets n) → IsShown first targets references m
  shown_referred : (n m : ℕ) → IsShown first targets references n → IsAmong m (targets_of references n) → IsShown first targets references m

-- A component: one of the first, or what one that is shown refers to.
pub data IsComponent (first : List ℕ) (targets references : List (List ℕ)) : ℕ → Type 0 where
  first_component : (n : ℕ) → IsAmong n first → IsComponent first targets references n
  referred_component : (n m : ℕ) → IsShown first targets references n → IsAmong m (targets_of references n) → IsComponent first targets references m
