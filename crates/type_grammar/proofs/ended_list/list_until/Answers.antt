use Rattle.std.proofs.Common.{◌≡◌, ◌<◌, ◌≤◌, ◌++◌, ◌∷◌, [], map, length, arith, sym, ◌∙◌, true, false}
use Rattle.std.proofs.lemmas.Result.{err_from_is_err_and}
use Rattle.std.proofs.lemmas.List.{map_push}
use Rattle.words.specs.Words.{words_view}
use Rattle.words.proofs.Laws.{length_view}
use Rattle.type_grammar.specs.Reading.{ends_at}
use Rattle.type_grammar.proofs.Lists.{list_start, list_done, list_last, list_turn, list_fails}
use Rattle.type_grammar.proofs.ended_list.list_until.Goals as goal

pub list-init : goal.list-init
list-init g c = (omega arith, rw c.new-items.ensures (list_start (ends_at c.args.end) g.I.ReadItem.reader (words_view c.args.trees.now)))

pub returns-clause-value : goal.returns-clause-value
returns-clause-value g c =
    let ended : ends_at c.args.end (words_view c.list.rest.now) ≡ true = sym c.ends_at.ensures ∙ c.list-test.false in
    list_done (ends_at c.args.end) g.I.ReadItem.reader _ _ _ c.list.invariant.1 ended

pub returns-in-None-clause-value : goal.returns-in-None-clause-value
returns-in-None-clause-value g c =
    let form = g.I.ReadItem.form_of in
    let going : ends_at c.args.end (words_view c.list.rest.now) ≡ false = sym c.ends_at.ensures ∙ c.list-test.true in
    let pushed : map form c.push.new.self ≡ map form c.list.items ++ form c.in_ok-item.item ∷ [] = rw c.in_ok-push.ensures.ok (map_push _ c.list.items c.in_ok-item.item) in
    rw pushed (list_last (ends_at c.args.end) g.I.ReadItem.reader _ _ _ (form c.in_ok-item.item) (words_view c.in_ok-item.after.now) c.list.invariant.1 going c.in_ok-item.ensures.value c.in-None.ensures.value)

pub returns-in_err-item-clause-value : goal.returns-in_err-item-clause-value
returns-in_err-item-clause-value g c =
    let p = err_from_is_err_and c.from_residual.result c.from_residual.ensures.1 in
    let going : ends_at c.args.end (words_view c.list.rest.now) ≡ false = sym c.ends_at.ensures ∙ c.list-test.true in
    rw (p.1, p.2) (list_fails (ends_at c.args.end) g.I.ReadItem.reader _ _ _ c.in_err-item.field-0.0 c.list.invariant.1 going c.in_err-item.ensures.value)

pub list-preserved : goal.list-preserved
list-preserved g c =
    let form = g.I.ReadItem.form_of in
    let going : ends_at c.args.end (words_view c.list.rest.now) ≡ false = sym c.ends_at.ensures ∙ c.list-test.true in
    let pushed : map form c.push.new.self ≡ map form c.list.items ++ form c.in_ok-item.item ∷ [] = rw c.in_ok-push.ensures.ok (map_push _ c.list.items c.in_ok-item.item) in
    let less : length (words_view c.in-Some.mid.now) < length (words_view c.list.rest.now) =
    omega (arith, length_view c.list.rest.now, length_view c.in-Some.mid.now, c.in-Some.ensures.shorter, c.in_ok-item.ensures.shorter) in
    let closer : length c.in-Some.mid.now ≤ length c.args.trees.now = omega (arith, c.list.invariant.0, c.in-Some.ensures.shorter, c.in_ok-item.ensures.shorter) in (
      closer,
      rw pushed
          (list_turn (ends_at c.args.end) g.I.ReadItem.reader _ _ _ (form c.in_ok-item.item) (words_view c.in_ok-item.after.now) (words_view c.in-Some.mid.now) c.list.invariant.1 less going c.in_ok-item.ensures.value
          c.in-Some.ensures.value),
    )
