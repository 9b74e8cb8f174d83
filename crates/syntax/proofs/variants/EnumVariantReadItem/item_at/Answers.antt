use Rattle.std.proofs.Common.{refl}
use Rattle.std.proofs.lemmas.Result.{err_from_is_err_and}
use Rattle.attributes.proofs.Laws.{first_fails}
use Rattle.syntax.specs.ItemReading.{variant_at}
use Rattle.syntax.proofs.variants.EnumVariantReadItem.item_at.Goals as goal

pub returns-in_err-fields-clause-value : goal.returns-in_err-fields-clause-value
unfolding variant_at
returns-in_err-fields-clause-value c =
    let p = err_from_is_err_and c.from_residual-in_err-fields.result c.from_residual-in_err-fields.ensures.1 in
    rw (p.1, p.2, c.in_ok-attrs.ensures.value, c.in_ok-name.ensures.value) (first_fails c.in_err-fields.field-0.0 _ _ c.in_err-fields.ensures.value)

pub returns-in_err-discriminant-clause-value : goal.returns-in_err-discriminant-clause-value
unfolding variant_at
returns-in_err-discriminant-clause-value c =
    let p = err_from_is_err_and c.from_residual-in_err-discriminant.result c.from_residual-in_err-discriminant.ensures.1 in
    rw (p.1, p.2, c.in_ok-attrs.ensures.value, c.in_ok-name.ensures.value, c.in_ok-fields.ensures.value) (first_fails c.in_err-discriminant.field-0.0 _ _ c.in_err-discriminant.ensures.value)

pub returns-clause-value : goal.returns-clause-value
unfolding variant_at
returns-clause-value c = rw (c.in_ok-attrs.ensures.value, c.in_ok-name.ensures.value, c.in_ok-fields.ensures.value, c.in_ok-discriminant.ensures.value, c.in_ok-ident.ensures, c.spanning-span.ensures) refl
