use Rattle.std.proofs.Common.{sym, subst, map, ◌≤◌}
use Rattle.std.proofs.lemmas.Result.{err_from_is_err_and}
use Rattle.tokens.specs.Trees.{trees_view, depth}
use Rattle.lexing.specs.Cut.{IsCut}
use Rattle.syntax.specs.Items.{declaration_view}
use Rattle.syntax.proofs.Answered.{found, shallow, unread, passed_on}
use Rattle.syntax.proofs.parse.parse_declarations.Goals as goal

pub returns-in_err-trees-clause-refused : goal.returns-in_err-trees-clause-refused
returns-in_err-trees-clause-refused c =
    let p = err_from_is_err_and c.from_residual.result c.from_residual.ensures.1 in
    rw (p.1, p.2) (passed_on c.args.source.now c.in_err-trees.field-0.0 c.in_err-trees.ensures.refused)

pub returns-in-Ok-clause-found : goal.returns-in-Ok-clause-found
returns-in-Ok-clause-found c =
    let cut = subst (λ v. IsCut c.args.source.now (trees_view v)) (sym c.as_slice.ensures) c.in_ok-trees.ensures.found in
    found c.args.source.now (trees_view c.as_slice.result.now) (map declaration_view c.in-Ok.items) cut c.in-Ok.ensures

pub returns-in-Ok-clause-shallow : goal.returns-in-Ok-clause-shallow
returns-in-Ok-clause-shallow c = λ span nests.
    let cut = subst (λ v. IsCut c.args.source.now (trees_view v)) (sym c.as_slice.ensures) c.in_ok-trees.ensures.found in
    let low = subst (λ v. depth (trees_view v) ≤ 64) (sym c.as_slice.ensures) c.in_ok-trees.ensures.shallow in
    shallow c.one_cut.ensures c.deep_brackets_nest_deep.ensures c.args.source.now (trees_view c.as_slice.result.now) (map declaration_view c.in-Ok.items) span cut low c.in-Ok.ensures nests

pub returns-clause-refused : goal.returns-clause-refused
returns-clause-refused c =
    let cut = subst (λ v. IsCut c.args.source.now (trees_view v)) (sym c.as_slice.ensures) c.in_ok-trees.ensures.found in
    let low = subst (λ v. depth (trees_view v) ≤ 64) (sym c.as_slice.ensures) c.in_ok-trees.ensures.shallow in
    unread c.one_cut.ensures c.args.source.now (trees_view c.as_slice.result.now) c.in-Err.stop c.refusal_of.result cut low c.in-Err.ensures c.refusal_of.ensures
