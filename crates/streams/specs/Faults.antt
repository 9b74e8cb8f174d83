-- The count of a stream's faults, before and after a call.
use Rattle.std.specs.Prelude.{◌≡◌, ◌+◌, ◌-◌, ◌≤◌, ◌^◌, ℕ, min, Result, OnOk, OnErr}

-- the count rose, or stands at its last value, 2^64 - 1
abbrev pub CountsFault : ℕ → ℕ → Type 0
CountsFault before now = min (before + 1) (2 ^ 64 - 1) ≤ now

-- the count never falls, stays at an `Ok`, and counts a fault at an `Err`
pub record HasCause {T E : Type 0} (before now : ℕ) (result : Result T E) : Type 0 where
  pub later : before ≤ now
  pub kept : OnOk result (now ≡ before)
  pub failed : OnErr result (CountsFault before now)
