use Rattle.std.proofs.lemmas.Grind.{common_steps}
use Rattle.std.proofs.Common.{arith}
use Rattle.literals.proofs.Laws.{code_fits}
use Rattle.literal_values.proofs.escapes.code.Goals as goal

pub overflow_mul-number : goal.overflow_mul-number
overflow_mul-number c = omega (arith, code_fits c.code.number c.code.digits c.code.invariant.4 c.if-digits-ge-MAX_DIGITS.false)

pub overflow_add-number : goal.overflow_add-number
overflow_add-number c = omega (arith, code_fits c.code.number c.code.digits c.code.invariant.4 c.if-digits-ge-MAX_DIGITS.false, c.in-Some.ensures)

pub returns-then-digits-ge-MAX_DIGITS : goal.returns-then-digits-ge-MAX_DIGITS
returns-then-digits-ge-MAX_DIGITS c = grind (arith, common_steps)

pub returns-then-digits-eq0 : goal.returns-then-digits-eq0
returns-then-digits-eq0 c = grind (arith, common_steps)

pub returns-in_err-from_u32 : goal.returns-in_err-from_u32
returns-in_err-from_u32 c = grind (arith, common_steps)

pub returns-then-c-eq125 : goal.returns-then-c-eq125
returns-then-c-eq125 c = grind (arith, common_steps)

pub returns-then-c-ne95 : goal.returns-then-c-ne95
returns-then-c-ne95 c = grind (arith, common_steps)

pub code-preserved-else-digits-ge-MAX_DIGITS : goal.code-preserved-else-digits-ge-MAX_DIGITS
code-preserved-else-digits-ge-MAX_DIGITS c = grind (arith, common_steps)

pub code-preserved : goal.code-preserved
code-preserved c = grind (arith, common_steps)
