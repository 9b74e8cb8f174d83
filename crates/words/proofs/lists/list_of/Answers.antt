use Rattle.std.proofs.Common.{◌≡◌, ◌++◌, ◌∷◌, [], map, sym, ◌∙◌, arith}
use Rattle.std.proofs.lemmas.Result.{err_from_is_err_and}
use Rattle.std.proofs.lemmas.List.{map_push}
use Rattle.words.specs.Words.{words_view}
use Rattle.words.specs.Lists.{itself, turn_at}
use Rattle.words.proofs.Many.{ends, goes_on, many_start, many_done, many_turn, many_fails}
use Rattle.words.proofs.Turns.{length_view}
use Rattle.words.proofs.lists.list_of.Goals as goal

pub items-init : goal.items-init
items-init g c = rw c.new-items.ensures (many_start itself (turn_at g.I.ReadItem.reader) (words_view c.args.trees.now))

pub returns : goal.returns
returns g c = rw c.shrunk.ensures (many_done itself (turn_at g.I.ReadItem.reader) _ _ _ c.items.invariant (ends c.items.rest.now (sym c.is_empty.ensures ∙ c.items-test.false)))

pub returns-in_err-item : goal.returns-in_err-item
returns-in_err-item g c =
    let p = err_from_is_err_and c.from_residual.result c.from_residual.ensures.1 in
    rw (p.1, p.2)
    (many_fails itself (turn_at g.I.ReadItem.reader) _ _ _ c.in_err-item.field-0.0 c.items.invariant (goes_on c.items.rest.now (sym c.is_empty.ensures ∙ c.items-test.true)) c.in_err-item.ensures.value)

pub items-preserved : goal.items-preserved
items-preserved g c =
    let form = g.I.ReadItem.form_of in
    let pushed : map form c.push.new.self ≡ map form c.items.items ++ form c.in_ok-item.item ∷ [] = rw c.in_ok-push.ensures.ok (map_push _ c.items.items c.in_ok-item.item) in
    rw pushed
    (many_turn itself (turn_at g.I.ReadItem.reader) _ _ _ (form c.in_ok-item.item) (words_view c.in_ok-item.after.now) c.items.invariant
    (omega (arith, length_view c.items.rest.now, length_view c.in_ok-item.after.now, c.in_ok-item.ensures.shorter)) c.in_ok-item.ensures.value)
