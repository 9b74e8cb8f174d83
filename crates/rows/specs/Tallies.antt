-- How rows are counted, and how the counts read.
use Rattle.std.specs.Prelude.{ℕ, ◌+◌, ◌-◌, ◌^◌, min, List, ◌++◌, codes}
use Rattle.std.specs.Fmt.{decimal}
use Rattle.rows.specs.declared.tally.Tally.{Tally}

-- a count and one more; the greatest number of 64 bits stays
abbrev pub one_more : ℕ → ℕ
one_more n = min (n + 1) (2 ^ 64 - 1)

-- `N rows, M differ`
abbrev pub text_of : Tally → List ℕ
text_of tally = decimal tally.rows ++ (codes " rows, " ++ (decimal tally.differing ++ codes " differ"))
