-- Whole numbers that `serde_json` holds.
use Rattle.std.specs.Prelude.{ℤ, pos, negsuc, ◌<◌, ◌^◌}

-- from -2^63 to 2^64 - 1
abbrev pub IsShort : ℤ → Type 0
IsShort (pos n) = n < 2 ^ 64
IsShort (negsuc n) = n < 2 ^ 63
