use Rattle.std.proofs.Common.{arith}
use Rattle.literals.proofs.Codes.{code_fits}
use Rattle.literals.proofs.strings.ends_code.Goals as goal

pub overflow_mul-value : goal.overflow_mul-value
overflow_mul-value c = omega (arith, code_fits c.code.value c.code.digits c.code.invariant.3 c.if-digits-ge-MAX_DIGITS.false)

pub overflow_add-value : goal.overflow_add-value
overflow_add-value c = omega (arith, code_fits c.code.value c.code.digits c.code.invariant.3 c.if-digits-ge-MAX_DIGITS.false, c.in-Some-to_digit.ensures)
