use Rattle.std.proofs.Common.{◌≡◌, ◌∷◌, ◌+◌, ◌||◌, ◌∙◌, ap, sym, subst, arith, rules, drop, false, string_bytes}
use Rattle.std.proofs.lemmas.List.{at_drop_more, at_drop_all}
use Rattle.serde_json.specs.Data.{number, item as data_item}
use Rattle.serde_json.specs.View.{view, number_view, items_view, members_view}
use Rattle.serde_json.specs.Written.{has_float, items_have_float, members_have_float}
use Rattle.serde_json.specs.declared.value.Value.{Number, the_lemmas}
use Rattle.serde_json.proofs.Views.{view-Array, view-Object}
use Rattle.schema_trees.specs.Held.{HoldsValue, HoldsItems}
use Rattle.schema_trees.proofs.Holds.{HoldsValues, of_number, of_items, of_members, one_word, no_items_held, one_item, no_values_held, one_value, in_order}
use Rattle.schema_trees.proofs.json_value.+float.Goals as goal

pub holds_float-returns-in-Number-clause-held : goal.holds_float-returns-in-Number-clause-held
holds_float-returns-in-Number-clause-held t c = λ none.
    let seen : view (Number c.in-Number.number) ≡ number (number_view c.in-Number.number) = search (rules, the_lemmas) in
    subst HoldsValue (sym (ap view c.in-Number.is ∙ seen)) (of_number _ (c.is_float_number.ensures.held none))

pub holds_float-returns-in-Array-clause-held : goal.holds_float-returns-in-Array-clause-held
holds_float-returns-in-Array-clause-held t c = λ none.
    let items = c.in-Array.items in
    subst HoldsValue (sym (ap view c.in-Array.is ∙ view-Array items)) (of_items _ (subst (λ vs. HoldsItems (items_view vs)) c.deref.ensures.value (c.items_hold_float.ensures.held none)))

pub holds_float-returns-in-Object-clause-held : goal.holds_float-returns-in-Object-clause-held
holds_float-returns-in-Object-clause-held t c = λ none.
    subst HoldsValue (sym (ap view c.in-Object.is ∙ view-Object c.in-Object.members)) (of_members _ (c.members_hold_float.ensures.held none))

pub holds_float-returns-in-Null-clause-held : goal.holds_float-returns-in-Null-clause-held
holds_float-returns-in-Null-clause-held t c = λ _. one_word c.args.value.now c.in-Null.is

pub holds_float-returns-in-Null-2-clause-held : goal.holds_float-returns-in-Null-2-clause-held
holds_float-returns-in-Null-2-clause-held t c = λ _. one_word c.args.value.now c.in-Null.is

pub holds_float-returns-in-Null-3-clause-held : goal.holds_float-returns-in-Null-3-clause-held
holds_float-returns-in-Null-3-clause-held t c = λ _. one_word c.args.value.now c.in-Null.is

pub items_hold_float-loop-item-preserved : goal.items_hold_float-loop-item-preserved
items_hold_float-loop-item-preserved t c =
    let vs = c.args.items.now in
    let i = c.loop-item.item-index in
    let v = c.item-item.result in
    let rest = items_view (drop (i + 1) vs) in
    let here : items_view (drop i vs) ≡ data_item (view v) rest = at_drop_more items_view vs i v (omega arith) ∙ ap (λ w. data_item (view w) rest) (sym c.item-item.is) in
    let none : has_float (view v) ≡ false = sym c.holds_float.ensures.float ∙ c.if-holds_float.false in
    record {
      float = sym (ap items_have_float here ∙ ap (λ b. b || items_have_float rest) none) ∙ c.loop-item.invariant.float;
      held = λ more. c.loop-item.invariant.held (subst HoldsItems (sym here) (one_item (view v) rest (c.holds_float.ensures.held c.if-holds_float.false) more));
    }

pub items_hold_float-returns-clause-held : goal.items_hold_float-returns-clause-held
items_hold_float-returns-clause-held t c = λ _.
    c.loop-item.invariant.held (subst HoldsItems (sym (at_drop_all items_view c.args.items.now c.loop-item.item-index (omega arith))) no_items_held)

pub members_hold_float-loop-key-preserved : goal.members_hold_float-loop-key-preserved
members_hold_float-loop-key-preserved t c =
    let es = c.next.new.self in
    let k = c.in-Some._key.now in
    let v = c.in-Some.member.now in
    let here : c.loop-key._key-iterator ≡ (k, v) ∷ es = search rules in
    let none : has_float (view v) ≡ false = sym c.holds_float.ensures.float ∙ c.if-holds_float.false in
    record {
      float = sym (ap (λ l. members_have_float (members_view l)) here ∙ ap (λ b. b || members_have_float (members_view es)) none) ∙ c.loop-key.invariant.float;
      held = λ more.
          c.loop-key.invariant.held (subst (λ l. HoldsValues (members_view l)) (sym here) (one_value (string_bytes k) (view v) (members_view es) (c.holds_float.ensures.held c.if-holds_float.false) more));
    }

pub members_hold_float-returns-clause-held : goal.members_hold_float-returns-clause-held
members_hold_float-returns-clause-held t c = λ _.
    in_order c.args.members.now.entries c.iter-key-items.ensures.ordered (c.loop-key.invariant.held (subst (λ l. HoldsValues (members_view l)) (sym c.in-None.ensures.steps.0) no_values_held))
