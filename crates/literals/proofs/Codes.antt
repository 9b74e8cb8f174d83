-- The number that hexadecimal digits write.
use Rattle.std.proofs.Common.{ℕ, ◌^◌, ◌<◌, ◌≤◌, arith}
use Rattle.std.proofs.Math.Nat.{pow-le-pow_right}

pub code_fits : (value digits : ℕ) → value < 16 ^ digits → digits < 6 → value < 16 ^ 5
code_fits value digits v n =
    let few : digits ≤ 5 = omega arith in
    let some : 0 < 16 = omega arith in
    let more : 16 ^ digits ≤ 16 ^ 5 = pow-le-pow_right some few in omega (arith, v, more)
