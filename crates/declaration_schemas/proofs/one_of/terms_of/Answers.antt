use Rattle.std.proofs.Common.{◌≡◌, ◌<◌, length, map, take, sym, subst, arith, inl, inr}
use Rattle.std.proofs.lemmas.Grind.{common_steps}
use Rattle.std.proofs.lemmas.Result.{err_from_is_err_and}
use Rattle.std.specs.List.{AllZip}
use Rattle.component.specs.Leaves.{term_view}
use Rattle.declaration_schemas.proofs.Items.{somewhere, zip_more}
use Rattle.declaration_schemas.proofs.one_of.terms_of.Goals as goal

pub to_term-requires : goal.to_term-requires
to_term-requires g c =
    let lt : c.loop-item.item-index < length c.args.items.now = omega arith in
    subst g.T.ToTerm.is_ready (sym c.item-item.is) (c.requires c.loop-item.item-index c.item-item.result lt)

pub returns-in_err-to_term-clause-refused : goal.returns-in_err-to_term-clause-refused
returns-in_err-to_term-clause-refused g c =
    let p = err_from_is_err_and c.from_residual.result c.from_residual.ensures.1 in
    let lt : c.loop-item.item-index < length c.args.items.now = omega arith in
    rw (p.1, p.2)
    (elim c.in_err-to_term.ensures.refused [
      | inl memory ↦ inl memory
      | inr fault ↦ inr (somewhere (λ x. g.T.ToTerm.is_refused x c.in_err-to_term.field-0.0) c.args.items.now c.loop-item.item-index c.item-item.result lt c.item-item.is fault)
    ])

pub loop-item-preserved : goal.loop-item-preserved
loop-item-preserved g c =
    let items = c.args.items.now in
    let at = c.loop-item.item-index in
    let lt : at < length items = omega arith in
    rw c.in_ok-push.ensures.ok (zip_more g.T.ToTerm.has_term term_view items at c.item-item.result c.loop-item.terms _ lt c.item-item.is c.loop-item.invariant c.in_ok-to_term.ensures.term)

pub returns-clause-terms : goal.returns-clause-terms
returns-clause-terms g c =
    let whole : take c.loop-item.item-index c.args.items.now ≡ c.args.items.now = grind (arith, common_steps) in
    subst (λ xs. AllZip g.T.ToTerm.has_term xs (map term_view c.loop-item.terms)) whole c.loop-item.invariant
