use Rattle.std.proofs.Common.{refl}
use Rattle.std.proofs.lemmas.Result.{err_from_is_err_and}
use Rattle.attributes.proofs.Laws.{first_fails}
use Rattle.syntax.specs.ItemReading.{enum_body_at}
use Rattle.syntax.proofs.variants.enum_body_at.Goals as goal

pub returns-in_err-variants-clause-value : goal.returns-in_err-variants-clause-value
unfolding enum_body_at
returns-in_err-variants-clause-value c =
    let p = err_from_is_err_and c.from_residual-in_err-variants.result c.from_residual-in_err-variants.ensures.1 in
    rw (p.1, p.2, c.in_ok-rest.ensures.value, c.in_ok-group.ensures.value) (first_fails c.in_err-variants.field-0.0 _ _ c.in_err-variants.ensures)

pub returns-clause-value : goal.returns-clause-value
unfolding enum_body_at
returns-clause-value c = rw (c.in_ok-rest.ensures.value, c.in_ok-group.ensures.value, c.in_ok-variants.ensures) refl
