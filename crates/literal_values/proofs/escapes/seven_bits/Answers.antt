use Rattle.std.proofs.lemmas.Grind.{common_steps}
use Rattle.std.proofs.Common.{arith}
use Rattle.literal_values.proofs.Characters.{reads_seven_bits}
use Rattle.literal_values.proofs.escapes.seven_bits.Goals as goal

pub returns : goal.returns
returns c = (
  reads_seven_bits _ _ _ _ _ _ c.in_ok-high.ensures.0 c.in_ok-low.ensures.0 c.in_ok-to_digit.ensures.value.0 c.in_ok-code.ensures.value.0
      (omega (arith, c.in_ok-from_u32.ensures.value.1, c.in_ok-to_digit.ensures.value.1, c.in_ok-code.ensures.value.1)),
  (omega (arith, c.in_ok-high.ensures.1, c.in_ok-low.ensures.1), c.in_ok-low.ensures.2),
)

pub returns-in_err-to_digit : goal.returns-in_err-to_digit
returns-in_err-to_digit c = grind (arith, common_steps)

pub returns-in_err-code : goal.returns-in_err-code
returns-in_err-code c = grind (arith, common_steps)
