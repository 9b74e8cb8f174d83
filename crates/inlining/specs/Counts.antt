-- Counts of copies, as far as a number of the program holds them.
use Rattle.std.specs.Prelude.{◌-◌, ◌^◌, ℕ, suc, List, min, slice_index}
use Rattle.inlining.specs.Inlining.{sum_of}

-- the number, or the greatest that the program has
abbrev pub saturated : ℕ → ℕ
saturated n = min n (2 ^ 64 - 1)

-- itself, and the counts of its targets
abbrev pub count_of : List ℕ → List ℕ → ℕ
count_of counts targets = saturated (suc (sum_of (slice_index counts) targets))
