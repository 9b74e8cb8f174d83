-- What stands behind what is passed over, a step further.
use Rattle.std.proofs.Common.{◌≡◌, ◌<◌, ◌≤◌, ◌-◌, ◌+◌, ℕ, zero, suc, Option, Some, None, refl, ap, ◌∙◌, arith}
use Rattle.std.specs.Option.{option_map_or}
use Rattle.warnings.specs.Through.{behind_some}

module _ {A : Type 0} (next : A → Option A) (x : A) where
  -- where it is passed over
  pub behind_next : (y : A) (depth at : ℕ) → next x ≡ Some y → at < depth → behind_some next (depth - at) x ≡ behind_some next (depth - (at + 1)) y
  unfolding behind_some
  behind_next y depth at is less =
      let left : depth - at ≡ suc (depth - (at + 1)) = omega arith in
      ap (λ n. behind_some next n x) left ∙ ap (λ o. option_map_or (behind_some next (depth - (at + 1))) o x) is

  -- where it is not
  pub behind_last : next x ≡ None → (left : ℕ) → behind_some next left x ≡ x
  unfolding behind_some
  behind_last is zero = refl
  behind_last is (suc left) = ap (λ o. option_map_or (behind_some next left) o x) is

  -- where as many are passed over as may be
  pub behind_all : (depth at : ℕ) → depth ≤ at → behind_some next (depth - at) x ≡ x
  unfolding behind_some
  behind_all depth at all =
      let left : depth - at ≡ 0 = omega arith in
      ap (λ n. behind_some next n x) left
