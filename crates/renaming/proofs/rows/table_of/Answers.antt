use Rattle.std.proofs.Common.{◌<◌, length, arith, inl, inr}
use Rattle.std.proofs.lemmas.Result.{err_from_is_err_and}
use Rattle.renaming.specs.Refusals.{IsNameless}
use Rattle.renaming.proofs.Walks.{somewhere_in}
use Rattle.renaming.proofs.rows.table_of.Goals as goal

pub returns-in_err-put_name-clause-refused : goal.returns-in_err-put_name-clause-refused
returns-in_err-put_name-clause-refused c =
    let p = err_from_is_err_and c.from_residual.result c.from_residual.ensures.1 in
    let lt : c.loop-asked.asked-index < length c.args.names.now = omega arith in
    rw (p.1, p.2)
    (elim c.in_err-put_name.ensures.refused [
      | inl memory ↦ inl memory
      | inr fault ↦ inr (somewhere_in (λ a. IsNameless a c.in_err-put_name.field-0.0) c.args.names.now c.loop-asked.asked-index c.asked-item.result lt c.asked-item.is fault)
    ])
