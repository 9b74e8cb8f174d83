use Rattle.std.proofs.Common.{sym, subst, ap, refl, ◌≤◌, Err, Result}
use Rattle.std.proofs.lemmas.Result.{err_from_is_err_and}
use Rattle.tokens.specs.Trees.{trees_view, depth}
use Rattle.lexing.specs.Cut.{IsCut}
use Rattle.words.specs.declared.stopping.Stop.{Stop}
use Rattle.written_types.specs.declared.written.WrittenType.{WrittenType}
use Rattle.type_grammar.proofs.TypeText.{type_shallow, type_unread, type_passed_on}
use Rattle.type_grammar.proofs.parse.parse_type.Goals as goal

pub returns-in_err-trees-clause-refused : goal.returns-in_err-trees-clause-refused
returns-in_err-trees-clause-refused c =
    let p = err_from_is_err_and c.from_residual.result c.from_residual.ensures.1 in
    rw (p.1, p.2) (type_passed_on c.args.text.now c.in_err-trees.field-0.0 c.in_err-trees.ensures.refused)

pub returns-in-Ok-clause-found : goal.returns-in-Ok-clause-found
returns-in-Ok-clause-found c =
    let cut = subst (λ v. IsCut c.args.text.now (trees_view v)) (sym c.as_slice.ensures) c.in_ok-trees.ensures.found in
    (trees_view c.as_slice.result.now, cut, c.in-Ok.ensures.found)

pub returns-in-Ok-clause-shallow : goal.returns-in-Ok-clause-shallow
returns-in-Ok-clause-shallow c = λ span nests.
    let cut = subst (λ v. IsCut c.args.text.now (trees_view v)) (sym c.as_slice.ensures) c.in_ok-trees.ensures.found in
    let low = subst (λ v. depth (trees_view v) ≤ 64) (sym c.as_slice.ensures) c.in_ok-trees.ensures.shallow in
    type_shallow c.one_cut.ensures c.deep_brackets_nest_deep.ensures c.args.text.now (trees_view c.as_slice.result.now) span cut low c.in-Ok.ensures.shallow nests

pub returns-clause-refused : goal.returns-clause-refused
returns-clause-refused c =
    let cut = subst (λ v. IsCut c.args.text.now (trees_view v)) (sym c.as_slice.ensures) c.in_ok-trees.ensures.found in
    let low = subst (λ v. depth (trees_view v) ≤ 64) (sym c.as_slice.ensures) c.in_ok-trees.ensures.shallow in
    let err : Stop → Result WrittenType Stop = λ s. Err s in
    type_unread c.one_cut.ensures c.args.text.now (trees_view c.as_slice.result.now) cut low c.in-Err.stop c.refusal_of.result
    (λ at is. c.in-Err.ensures.deep at (ap err is))
    (λ wrong. c.in-Err.ensures.wrong c.in-Err.stop refl wrong)
    c.refusal_of.ensures
