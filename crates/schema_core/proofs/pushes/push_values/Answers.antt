use Rattle.std.proofs.Common.{◌≡◌, ◌+◌, ◌++◌, ◌∙◌, ap, sym, subst, arith, drop, string_bytes}
use Rattle.std.proofs.lemmas.List.{at_drop_more, at_drop_all}
use Rattle.serde_json.specs.Written.{items_text}
use Rattle.acceptance.specs.Json.{list, no_items, item}
use Rattle.acceptance.specs.Data.{items_data}
use Rattle.schema_trees.specs.Held.{IsHeld}
use Rattle.schema_core.specs.Form.{value_items}
use Rattle.schema_core.proofs.Written.{item_step}
use Rattle.schema_core.proofs.pushes.push_values.Goals as goal

pub loop-json-preserved : goal.loop-json-preserved
loop-json-preserved c =
    let xs = c.args.jsons.now in
    let i = c.loop-json.json-index in
    let x = c.json-item.result in
    let rest = value_items (drop (i + 1) xs) in
    let here : value_items (drop i xs) ≡ item x rest = at_drop_more value_items xs i x (omega arith) ∙ ap (λ y. item y rest) (sym c.json-item.is) in
    let before = string_bytes c.loop-json.text in
    record {
      text_is =
          item_step c.loop-json.later x rest before _ _ c.in_ok-push_comma.ensures (c.in_ok-push_value.ensures x c.value.ensures.value)
          ∙ ap (λ ys. before ++ items_text c.loop-json.later (items_data ys)) (sym here) ∙ c.loop-json.invariant.text_is;
      held = λ more. c.loop-json.invariant.held (subst (λ ys. IsHeld (list ys)) (sym here) ((c.value.ensures.held.0, more.0), (c.value.ensures.held.1, more.1)));
    }

pub returns : goal.returns
returns c =
    let none : value_items (drop c.loop-json.json-index c.args.jsons.now) ≡ no_items = at_drop_all value_items c.args.jsons.now c.loop-json.json-index (omega arith) in
    record {
      text_is = ap (λ ys. string_bytes c.loop-json.text ++ items_text c.loop-json.later (items_data ys)) (sym none) ∙ c.loop-json.invariant.text_is;
      held = c.loop-json.invariant.held (subst (λ ys. IsHeld (list ys)) (sym none) (tt, tt));
    }
