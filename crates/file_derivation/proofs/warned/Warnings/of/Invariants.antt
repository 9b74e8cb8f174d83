use Rattle.std.proofs.Common.{◌≡◌, take, length}
use Rattle.file_derivation.proofs.warned.Warnings.of.Given as goal

-- the first hundred are left
abbrev pub invariant-told : goal.invariant-told
invariant-told l = take 100 l.told ≡ take 100 l.fn.told

abbrev pub decreases-told : goal.decreases-told
decreases-told l = length l.told
