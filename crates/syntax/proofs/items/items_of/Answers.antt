use Rattle.std.proofs.Common.{◌≡◌, ◌<◌, ◌++◌, ◌∷◌, [], List, length, map, sym, ap, subst, ◌∙◌, arith, Option, None, Some, Result, Ok}
use Rattle.std.proofs.lemmas.Result.{err_from_is_err_and}
use Rattle.std.proofs.lemmas.List.{map_push, append-nil}
use Rattle.std.specs.Option.{option_map}
use Rattle.words.specs.Words.{Word, words_view}
use Rattle.words.specs.Reading.{Fault}
use Rattle.words.proofs.Laws.{SoFar, ends, goes_on, many_start, many_done, many_turn, many_fails, length_view}
use Rattle.syntax.specs.declared.item.Declaration.{Declaration}
use Rattle.syntax.specs.Items.{DeclaredItem, declaration_view}
use Rattle.syntax.specs.ItemDepth.{within_levels}
use Rattle.syntax.specs.ItemReading.{kept, item_at, items_at}
use Rattle.syntax.proofs.items.items_of.Goals as goal

pub items-init : goal.items-init
items-init c = rw c.new-items.ensures (many_start kept (item_at within_levels) (words_view c.args.trees.now))

pub returns : goal.returns
returns c = many_done kept (item_at within_levels) _ _ _ c.items.invariant (ends c.items.rest.now (sym c.is_empty.ensures ∙ c.items-test.false))

pub returns-in_err-item : goal.returns-in_err-item
returns-in_err-item c =
    let p = err_from_is_err_and c.from_residual.result c.from_residual.ensures.1 in
    rw (p.1, p.2)
    (many_fails kept (item_at within_levels) _ _ _ c.in_err-item.field-0.0 c.items.invariant (goes_on c.items.rest.now (sym c.is_empty.ensures ∙ c.items-test.true)) c.in_err-item.ensures.value)

pub items-preserved-in_ok-push : goal.items-preserved-in_ok-push
items-preserved-in_ok-push c =
    let pushed : map declaration_view c.push.new.self ≡ map declaration_view c.items.items ++ declaration_view c.in-Some.declaration ∷ [] = rw c.in_ok-push.ensures.ok (map_push _ c.items.items c.in-Some.declaration) in
    let seen : Option Declaration → Result (Option DeclaredItem × List Word) Fault = λ o. Ok (option_map declaration_view o, words_view c.in_ok-item.after.now) in
    let less : length (words_view c.in_ok-item.after.now) < length (words_view c.items.rest.now) = omega (arith, length_view c.items.rest.now, length_view c.in_ok-item.after.now, c.in_ok-item.ensures.shorter) in
    rw pushed
    (many_turn kept (item_at within_levels) _ _ _ (Some (declaration_view c.in-Some.declaration)) (words_view c.in_ok-item.after.now) c.items.invariant less (c.in_ok-item.ensures.value ∙ ap seen c.in-Some.is))

pub items-preserved : goal.items-preserved
items-preserved c =
    let seen : Option Declaration → Result (Option DeclaredItem × List Word) Fault = λ o. Ok (option_map declaration_view o, words_view c.in_ok-item.after.now) in
    let Kept : List DeclaredItem → Type 0 = λ front. SoFar kept (item_at within_levels) front (words_view c.in_ok-item.after.now) (items_at within_levels (words_view c.args.trees.now)) in
    let less : length (words_view c.in_ok-item.after.now) < length (words_view c.items.rest.now) = omega (arith, length_view c.items.rest.now, length_view c.in_ok-item.after.now, c.in_ok-item.ensures.shorter) in
    subst Kept (append-nil (map declaration_view c.items.items))
    (many_turn kept (item_at within_levels) _ _ _ None (words_view c.in_ok-item.after.now) c.items.invariant less (c.in_ok-item.ensures.value ∙ ap seen c.in_default.is))
