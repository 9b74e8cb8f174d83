use Rattle.std.proofs.Common.{◌≡◌, ◌<◌, arith, get_or, length, Ok}
use Rattle.std.proofs.lemmas.Fmt.{decimal_nonempty, parse-decimal}
use Rattle.schema_gen.proofs.Decimal.{first_is_other, read_decimal}
use Rattle.schema_gen.proofs.size.size_of.Goals as goal
use Rattle.schema_gen.proofs.size.size_of.Goals.{then-is_empty-via-then-is_empty, then-is_empty-via-else-is_empty+then-bytes-eq43, then-is_empty-via-else-is_empty+else-bytes-eq43+then-bytes-eq48}

pub returns-then-is_empty : goal.returns-then-is_empty
returns-then-is_empty c = λ n some few is.
    let first : 48 < get_or c.args.text.now 0 0 = first_is_other c.args.text.now n some (omega arith) is in
    let digits : 0 < length c.args.text.now = rw is (decimal_nonempty n (omega arith)) in
    elim c.then-is_empty.branch [
      | then-is_empty-via-then-is_empty w ↦ grind (arith, digits)
      | then-is_empty-via-else-is_empty+then-bytes-eq43 w ↦ grind (arith, first)
      | then-is_empty-via-else-is_empty+else-bytes-eq43+then-bytes-eq48 w ↦ grind (arith, first)
    ]

pub returns-in-Ok : goal.returns-in-Ok
returns-in-Ok c = read_decimal c.args.text.now c.in-Ok.many c.in-Ok.ensures.value.0 (λ e. grind (arith, e)) (λ e. grind (arith, e))

pub returns-in_default : goal.returns-in_default
returns-in_default c = λ n some few is.
    let read : c.parse.result ≡ Ok n = parse-decimal 64 n c.args.text.now c.parse.result (omega arith) (omega arith) is c.parse.ensures.value.0 in
    grind (arith, read)

pub returns-in_default-2 : goal.returns-in_default-2
returns-in_default-2 c = λ n some few is.
    let read : c.parse.result ≡ Ok n = parse-decimal 64 n c.args.text.now c.parse.result (omega arith) (omega arith) is c.parse.ensures.value.0 in
    grind (arith, read)

pub returns-in_default-3 : goal.returns-in_default-3
returns-in_default-3 c = λ n some few is.
    let read : c.parse.result ≡ Ok n = parse-decimal 64 n c.args.text.now c.parse.result (omega arith) (omega arith) is c.parse.ensures.value.0 in
    grind (arith, read)
