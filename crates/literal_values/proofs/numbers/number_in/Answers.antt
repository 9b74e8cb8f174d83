use Rattle.std.proofs.lemmas.Grind.{common_steps}
use Rattle.literal_values.proofs.Reading.{read_step, read_end, number_is, read_fault}
use Rattle.std.proofs.Common.{◌≡◌, ◌<◌, None, arith, rules, sym, ◌∙◌}
use Rattle.literal_values.proofs.numbers.number_in.Goals as goal

pub returns-in_err-number : goal.returns-in_err-number
returns-in_err-number c =
    let some : 0 < c.args.base = omega arith in
    let nothing : c.from_residual.result ≡ None = search rules in
    nothing
    ∙ sym (
    number_is c.args.base c.args.text.now some ∙ sym c.loop-byte.invariant
    ∙ read_fault c.args.base c.loop-byte.number c.loop-byte.has_digits c.args.text.now c.loop-byte.byte-index c.loop-byte-test.true (search rules) c.in_err-number.ensures
    )

pub loop-byte-preserved-then-byte-eq95 : goal.loop-byte-preserved-then-byte-eq95
loop-byte-preserved-then-byte-eq95 c = grind (arith, common_steps)

pub loop-byte-preserved : goal.loop-byte-preserved
loop-byte-preserved c = grind (arith, common_steps)

pub returns-then-has_digits : goal.returns-then-has_digits
returns-then-has_digits c = grind (arith, number_is, read_step, read_end)

pub returns-else-has_digits : goal.returns-else-has_digits
returns-else-has_digits c = grind (arith, number_is, read_step, read_end)
